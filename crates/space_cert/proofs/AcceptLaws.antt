-- What the code judges is whether the certificate covers the source.
use Rattle.std.proofs.Common.{◌≡◌, ℕ, zero, suc, ◌+◌, ◌<◌, ◌≤◌, nat_le, cond, slice_get, List, [], ◌∷◌, ◌++◌, map, length, get_or, Bool, true, false, ◌&&◌}
use Rattle.std.{proofs.Common.{Option, Some, None, inl, inr, refl, ap, sym, ◌∙◌, subst, arith, eq-eqb, leb-true}, proofs.lemmas.Bool.{and_parts, le-leb}}
use Rattle.std.{proofs.lemmas.Bool.{eqb-true, cases_lt, false_from_ne_true, and_from}, proofs.lemmas.List.{length-map, get_or_past}}
use Rattle.std.{proofs.lemmas.List.Elements.{All-nil, All-cons, All-head, All-tail}, specs.List.All, specs.Option.{IsSome, IsSomeAnd, option_map, unwrap_or}}
use Rattle.stack_text.specs.Values.{ValueOf}
use Rattle.gypsy_syntax.{specs.declared.literal.Decl.Decl, specs.declared.proc.Proc.Proc as TextProc, specs.Views.SourceView.proc_of, specs.Programs.Proc}
use Rattle.gypsy_syntax.{specs.Programs.{Program, no_proc, proc_at, words_of}, specs.ProgramFits.ProgramFits, specs.Resolved.{procedure_of, program_of}}
use Rattle.gypsy_syntax.{specs.Resolved.{shape_of, statement_of, statement_of_all}, specs.Sources.{SourceOf, ProcOf, StmtOf, StmtsOf, no_op, signal, seq, loop}}
use Rattle.gypsy_syntax.specs.Sources.{branch, begin, call, predef, no_parts, part}
use Rattle.gypsy_space.{specs.Needs.{StackSizes, stack_sizes, frame_of, main_used}, specs.Events.{AreNeeds, need_at, need_of}, specs.declared.need.Need.Need}
use Rattle.gypsy_space.proofs.SmallLaws.{words_of-append}
use Rattle.space_cert.specs.Covers.{Bounds, as_words, bound_at, words_sum, callees, IsAtMost, own_need, call_bound, CoversCall, CoversRun, Covers}
use Rattle.space_cert.{specs.Reaches.calls_of, specs.Order.call_bound_by, specs.Accepting.{is_some_and, covers_call, covers_calls, covers_run, covers_from}}
use Rattle.space_cert.specs.Accepting.{covers_main, covers, source_callees, parts_callees, source_calls, needs_from, is_covered}
use Rattle.space_cert.{proofs.CoversLaws.{main_within, some_there}, proofs.CertifyLaws.{body_calls, calls_below, calls_same}}
use Rattle.gypsy_semantics.specs.Views.Fitting.{suffice}

at_most_true : (u v : StackSizes) → suffice u v ≡ true → IsAtMost u v
at_most_true u v e =
    let k = and_parts (nat_le u.temp v.temp) (nat_le u.ctrl v.ctrl) e in
    record { temp = leb-true u.temp v.temp k.0; ctrl = leb-true u.ctrl v.ctrl k.1 }

at_most_is : (u v : StackSizes) → IsAtMost u v → suffice u v ≡ true
at_most_is u v h = and_from (nat_le u.temp v.temp) (nat_le u.ctrl v.ctrl) (le-leb u.temp v.temp h.temp) (le-leb u.ctrl v.ctrl h.ctrl)

some_true : (o : Option StackSizes) (f : StackSizes → Bool) (P : StackSizes → Type 0) → ((w : StackSizes) → f w ≡ true → P w) → is_some_and o f ≡ true
    → IsSomeAnd o P
some_true None f P h e = cc
some_true (Some w) f P h e = h w e

some_is_true : (o : Option StackSizes) (f : StackSizes → Bool) (P : StackSizes → Type 0) → ((w : StackSizes) → P w → f w ≡ true) → IsSomeAnd o P
    → is_some_and o f ≡ true
some_is_true None f P h k = absurd k
some_is_true (Some w) f P h k = h w k

past_none : (bs : Bounds) (p : ℕ) (b : StackSizes) → bound_at bs p ≡ Some b → p < length bs
past_none bs p b e = elim (cases_lt p (length bs)) [ inl h ↦ h | inr h ↦ absurd (none_some (sym (ap (option_map as_words) (get_or_past bs p None h)) ∙ e)) ]
  where
    none_some : None ≡ Some b → ⊥
    none_some e = cc

module _ (q : Program) (ns : List Need) (needs : AreNeeds q ns) (fits : ProgramFits q) (bs : Bounds) where
  call_true : (b : StackSizes) (r : ℕ) → r < length q.procs → covers_call ns bs b r ≡ true → CoversCall q bs b r
  call_true b r lt e = some_true _ _ _ (λ d i. at_most_true (call_bound q r d) b (subst (λ n. suffice (call_bound_by n d) b ≡ true) (needs.each r lt) i)) e

  call_is : (b : StackSizes) (r : ℕ) → r < length q.procs → CoversCall q bs b r → covers_call ns bs b r ≡ true
  call_is b r lt h = some_is_true _ _ _ (λ d i. subst (λ n. suffice (call_bound_by n d) b ≡ true) (sym (needs.each r lt)) (at_most_is (call_bound q r d) b i)) h

  calls_true : (b : StackSizes) (ps : List ℕ) → All (λ r. r < length q.procs) ps → covers_calls ns bs b ps ≡ true → All (CoversCall q bs b) ps
  calls_true b [] lt e = All-nil (CoversCall q bs b)
  calls_true b (r ∷ ps) lt e =
      let k = and_parts (covers_call ns bs b r) (covers_calls ns bs b ps) e in
      All-cons (CoversCall q bs b) r ps (call_true b r (All-head (λ x. x < length q.procs) r ps lt) k.0)
      (calls_true b ps (All-tail (λ x. x < length q.procs) r ps lt) k.1)

  calls_is : (b : StackSizes) (ps : List ℕ) → All (λ r. r < length q.procs) ps → All (CoversCall q bs b) ps → covers_calls ns bs b ps ≡ true
  calls_is b [] lt h = refl
  calls_is b (r ∷ ps) lt h = and_from _ _ (call_is b r (All-head (λ x. x < length q.procs) r ps lt) (All-head (CoversCall q bs b) r ps h))
      (calls_is b ps (All-tail (λ x. x < length q.procs) r ps lt) (All-tail (CoversCall q bs b) r ps h))

  run_true : (p : ℕ) (b : StackSizes) → p < length q.procs → covers_run ns bs (need_at ns p) (calls_of q p) (Some b) ≡ true → CoversRun q bs p b
  run_true p b lt e =
      let k = and_parts (suffice (stack_sizes (need_at ns p).ctrl (need_at ns p).temp) b) (covers_calls ns bs b (calls_of q p)) e in
      record {
        own = at_most_true (own_need (proc_at q p)) b (subst (λ (n : Need). suffice (stack_sizes n.ctrl n.temp) b ≡ true) (needs.each p lt) k.0);
        calls = calls_true b (calls_of q p) (calls_below q fits p) k.1;
      }

  run_is : (p : ℕ) (o : Option StackSizes) → p < length q.procs → ((b : StackSizes) → o ≡ Some b → CoversRun q bs p b)
      → covers_run ns bs (need_at ns p) (calls_of q p) o ≡ true
  run_is p None lt h = refl
  run_is p (Some b) lt h = and_from _ _
      (subst (λ (n : Need). suffice (stack_sizes n.ctrl n.temp) b ≡ true) (sym (needs.each p lt)) (at_most_is (own_need (proc_at q p)) b (h b refl).own))
      (calls_is b (calls_of q p) (calls_below q fits p) (h b refl).calls)

  from_true : (calls : List (List ℕ)) (k i : ℕ) → covers_from ns bs k calls ≡ true → i < length calls
      → covers_run ns bs (need_at ns (k + i)) (get_or calls i []) (bound_at bs (k + i)) ≡ true
  from_true [] k i e lt = absurd (omega (arith, lt))
  from_true (ps ∷ calls) k zero e lt =
      let first : k ≡ k + 0 = omega arith in
      subst (λ j. covers_run ns bs (need_at ns j) ps (bound_at bs j) ≡ true) first (and_parts _ _ e).0
  from_true (ps ∷ calls) k (suc i) e lt =
      let next : (k + 1) + i ≡ k + suc i = omega arith in
      subst (λ j. covers_run ns bs (need_at ns j) (get_or calls i []) (bound_at bs j) ≡ true) next
      (from_true calls (k + 1) i (and_parts (covers_run ns bs (need_at ns k) ps (bound_at bs k)) (covers_from ns bs (k + 1) calls) e).1 (omega arith))

  from_is : (calls : List (List ℕ)) (k : ℕ)
      → ((i : ℕ) → i < length calls → covers_run ns bs (need_at ns (k + i)) (get_or calls i []) (bound_at bs (k + i)) ≡ true)
      → covers_from ns bs k calls ≡ true
  from_is [] k h = refl
  from_is (ps ∷ calls) k h =
      let first : k + 0 ≡ k = omega arith in
      and_from _ _ (subst (λ j. covers_run ns bs (need_at ns j) ps (bound_at bs j) ≡ true) first (h 0 (omega arith)))
      (from_is calls (k + 1) (λ i lt. subst (λ j. covers_run ns bs (need_at ns j) (get_or calls i []) (bound_at bs j) ≡ true) (shift k i)
      (h (suc i) (omega arith))))
    where
      shift : (k i : ℕ) → k + suc i ≡ (k + 1) + i
      shift k i = omega arith

  many : length (body_calls q) ≡ length q.procs
  many = length-map q.procs (λ (p : Proc). callees p.body)

  pub covers_true : (sizes : StackSizes) → covers ns bs (main_used q) sizes q.main (body_calls q) ≡ true → Covers q bs sizes
  covers_true sizes e =
      let k = and_parts _ _ e in
      let j = and_parts _ _ k.1 in
      let number : length bs ≡ length q.procs = eqb-true (length bs) _ k.0 ∙ many in
      let main = some_true _ _ _ (λ b i. at_most_true (words_sum (main_used q) b) sizes i) j.0 in
      record {
        certificate = record {
          number = number;
          main = some_there _ _ main;
          each = λ p b i.
              let lt : p < length q.procs = omega (arith, past_none) in
              let zero_add : 0 + p ≡ p = omega arith in
              let run = subst (λ x. covers_run ns bs (need_at ns x) (get_or (body_calls q) p []) (bound_at bs x) ≡ true) zero_add
              (from_true (body_calls q) 0 p j.1 (omega (arith, lt, many))) in
              run_true p b lt (subst (λ o. covers_run ns bs (need_at ns p) (calls_of q p) o ≡ true) i
              (subst (λ x. covers_run ns bs (need_at ns p) x (bound_at bs p) ≡ true) (calls_same q.procs p) run));
        };
        within = main_enough _ main;
      }
    where
      main_enough : (o : Option StackSizes) → IsSomeAnd o (λ d. IsAtMost (words_sum (main_used q) d) sizes)
          → IsAtMost (words_sum (main_used q) (unwrap_or o (stack_sizes 0 0))) sizes
      main_enough None h = absurd h
      main_enough (Some d) h = h

  pub covers_is : (sizes : StackSizes) → Covers q bs sizes → covers ns bs (main_used q) sizes q.main (body_calls q) ≡ true
  covers_is sizes h = and_from _ _ (eq-eqb (length bs) (length (body_calls q)) (h.certificate.number ∙ sym many))
      (and_from _ _ (main (bound_at bs q.main) refl h.certificate.main) (from_is (body_calls q) 0 (λ i lt.
      let zero_add : i ≡ 0 + i = omega arith in
      subst (λ x. covers_run ns bs (need_at ns x) (get_or (body_calls q) i []) (bound_at bs x) ≡ true) zero_add
      (subst (λ x. covers_run ns bs (need_at ns i) x (bound_at bs i) ≡ true) (sym (calls_same q.procs i))
      (run_is i (bound_at bs i) (omega (arith, lt, many)) (h.certificate.each i))))))
    where
      main : (o : Option StackSizes) → bound_at bs q.main ≡ o → IsSome o → covers_main (main_used q) sizes o ≡ true
      main None e k = cc
      main (Some b) e k = at_most_is (words_sum (main_used q) b) sizes (main_within q bs sizes h b e)

-- By the program alone.

needs_at : (q : Program) (n k p : ℕ) → p < n → need_at (needs_from q n k) p ≡ need_of q (k + p)
needs_at q zero k p lt = absurd (omega (arith, lt))
needs_at q (suc n) k zero lt = let same : k ≡ k + 0 = omega arith in ap (need_of q) same
needs_at q (suc n) k (suc p) lt = let same : (k + 1) + p ≡ k + suc p = omega arith in needs_at q n (k + 1) p (omega (arith, lt)) ∙ ap (need_of q) same

needs_many : (q : Program) (n k : ℕ) → length (needs_from q n k) ≡ n
needs_many q zero k = refl
needs_many q (suc n) k = let rest = needs_many q n (k + 1) in omega (arith, rest)

are_needs : (q : Program) → AreNeeds q (needs_from q (length q.procs) 0)
are_needs q = record { number = needs_many q _ 0; each = λ p lt. needs_at q _ 0 p lt ∙ ap (need_of q) (zero_plus p) }
  where
    zero_plus : (p : ℕ) → 0 + p ≡ p
    zero_plus p = omega arith

-- what is judged by the program is whether it is covered
pub covered_is : (q : Program) → ProgramFits q → (bs : Bounds) (sizes : StackSizes) → (is_covered q bs sizes ≡ true → Covers q bs sizes)
    × (Covers q bs sizes → is_covered q bs sizes ≡ true)
unfolding is_covered
covered_is q fits bs sizes = (λ t. covers_true q _ (are_needs q) fits bs sizes t, λ h. covers_is q _ (are_needs q) fits bs sizes h)

-- what is judged so is judged as the program has it
pub is_covered_by : (q : Program) → ProgramFits q → (bs : Bounds) (sizes : StackSizes) (b : Bool) → (b ≡ true → Covers q bs sizes)
    → (Covers q bs sizes → b ≡ true) → b ≡ is_covered q bs sizes
unfolding is_covered
is_covered_by q fits bs sizes true to from = sym (covers_is q (needs_from q (length q.procs) 0) (are_needs q) fits bs sizes (to refl))
is_covered_by q fits bs sizes false to from =
    sym (false_from_ne_true (covers (needs_from q (length q.procs) 0) bs (main_used q) sizes q.main (body_calls q))
    (λ t. let e : false ≡ true = from (covers_true q (needs_from q (length q.procs) 0) (are_needs q) fits bs sizes t) in cc))

-- The source's callees are its program's.

mutual
  callees_same : (s : SourceOf) (p : ProcOf) (st : StmtOf) → callees (statement_of s p st) ≡ source_callees s st
  callees_same s p (no_op place) = refl
  callees_same s p (signal place cond) = refl
  callees_same s p (seq place parts) = parts_same s p parts
  callees_same s p (loop place body) = callees_same s p body
  callees_same s p (branch place test b c) = λ i. callees_same s p b i ++ callees_same s p c i
  callees_same s p (begin place body conds arm) = λ i. callees_same s p body i ++ callees_same s p arm i
  callees_same s p (call place callee xs_place xs cs_place cs) = refl
  callees_same s p (predef place which args) = refl

  parts_same : (s : SourceOf) (p : ProcOf) (parts : StmtsOf) → callees (statement_of_all s p parts) ≡ parts_callees s parts
  parts_same s p no_parts = refl
  parts_same s p (part b rest) = λ i. callees_same s p b i ++ parts_same s p rest i

pub source_calls_are : (s : SourceOf) → source_calls s ≡ body_calls (program_of s)
source_calls_are s = all s.procs
  where
    all : (procs : List ProcOf) → map (λ (p : ProcOf). source_callees s p.body) procs ≡ map (λ (p : Proc). callees p.body) (map (procedure_of s) procs)
    all [] = refl
    all (p ∷ procs) = λ i. sym (callees_same s p p.body) i ∷ all procs i

-- Main's words, and its frame.

module _ (s : SourceOf) (ns : List Need) (needs : AreNeeds (program_of s) ns) (fits : ProgramFits (program_of s)) (main : ℕ)
    (is : main ≡ (program_of s).main) where
  main_need_is : need_at ns main ≡ need_of (program_of s) (program_of s).main
  main_need_is = ap (need_at ns) is ∙ needs.each (program_of s).main fits.main

  -- the words of its formals, and those of its locals
  pub used_is : (f : ℕ) → f ≡ words_of (proc_at (program_of s) (program_of s).main).formals
      → stack_sizes (2 + (need_at ns main).vars) (f + (need_at ns main).locals_words) ≡ main_used (program_of s)
  unfolding main_used
  used_is f e =
      let p = proc_at (program_of s) (program_of s).main in
      (λ i. stack_sizes (2 + (main_need_is i).vars) (e i + (main_need_is i).locals_words))
      ∙ ap (λ n. stack_sizes (frame_of p) n) (sym (words_of-append p.formals (map (λ (v : ValueOf). v.shape) p.locals)))

pub formals_small : (s : SourceOf) → ProgramFits (program_of s) → words_of (proc_at (program_of s) (program_of s).main).formals ≤ 65536
formals_small s fits = omega (arith, (fits.procs (program_of s).main).words, words_of-append)

-- a procedure of the source, as it is looked up
pub formals_at : (s : SourceOf) (procs : List TextProc) (i : ℕ) (p : TextProc) → slice_get procs i ≡ Some p
    → (get_or (map (procedure_of s) (map proc_of procs)) i no_proc).formals ≡ map (λ (d : Decl). shape_of d.shape) p.formals.items
formals_at s [] i p e = cc
formals_at s (q ∷ procs) zero p e = ap (λ (o : Option TextProc). map (λ (d : Decl). shape_of d.shape) (unwrap_or o q).formals.items) e
formals_at s (q ∷ procs) (suc i) p e = formals_at s procs i p e

pub no_formals : (s : SourceOf) (procs : List TextProc) (i : ℕ) → slice_get procs i ≡ None
    → (get_or (map (procedure_of s) (map proc_of procs)) i no_proc).formals ≡ []
no_formals s [] i e = refl
no_formals s (q ∷ procs) zero e = cc
no_formals s (q ∷ procs) (suc i) e = no_formals s procs i e

-- as many as procedures
pub calls_many : (s : SourceOf) → length (source_calls s) ≡ length s.procs
calls_many s = length-map s.procs (λ (p : ProcOf). source_callees s p.body)

pub procs_many : (procs : List TextProc) → length (map proc_of procs) ≡ length procs
procs_many procs = length-map procs proc_of

-- how the tests are joined
pub third_is : (a b y : Bool) → a ≡ true → b ≡ true → (a && (b && y)) ≡ y
third_is a b y e f = λ i. e i && (f i && y)
