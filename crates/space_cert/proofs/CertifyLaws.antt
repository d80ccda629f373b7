-- What is found along the calls of an accepted program is its least certificate, or its first recursive procedure.
use Rattle.std.proofs.Common.{◌≡◌, ℕ, zero, suc, ◌+◌, ◌*◌, ◌<◌, ◌≤◌, max, List, [], ◌∷◌, ◌++◌, map, length, get_or, take, reverse, Bool, true, false, Option}
use Rattle.std.{proofs.Common.{Some, None, inl, inr, refl, ap, sym, ◌∙◌, subst, arith}, proofs.lemmas.Bool.cases_eq, proofs.lemmas.List.length-map}
use Rattle.std.{proofs.lemmas.List.{length-reverse, length-take, reverse-append, reverse-reverse, take_all}, proofs.lemmas.List.Elements.{All-nil, All-cons}}
use Rattle.std.{proofs.lemmas.List.Elements.{All-head, All-tail, All-append, All-take, All-contains, Contains-push, Contains-append_left}, specs.List.All}
use Rattle.std.{specs.List.Contains, specs.Option.unwrap_or, specs.Global.Vec}
use Rattle.stack_text.{specs.declared.shape.Shape.Shape, specs.Values.ValueOf}
use Rattle.gypsy_syntax.{specs.Predefined.{predef_temp, predef_ctrl}, specs.Programs.{Proc, Program, no_proc, proc_at, body_of, shapes_of, conds_of, Stmt}}
use Rattle.gypsy_syntax.{specs.Programs.{Skip, NoOp, Signal, Seq, Loop, If, Begin, Call, Apply}, specs.ProgramFits.{StmtFits, ProcFits, ProgramFits}}
use Rattle.gypsy_syntax.proofs.PredefLaws.{low_temp, low_ctrl}
use Rattle.gypsy_space.{specs.Needs.{StackSizes, stack_sizes, local_words, vars_of}, specs.Events.{AreNeeds, need_at}, specs.declared.need.Need.Need}
use Rattle.gypsy_space.proofs.SmallLaws.{words_of-append, length-words_of, greatest_within}
use Rattle.space_cert.{specs.Covers.{Bounds, no_bounds, bound_at, IsAtMost, callees, own_need, call_bound}, specs.Reaches.{Reaches, Directly, Further, Leads}}
use Rattle.space_cert.{specs.Reaches.{calls_of, IsReached}, specs.Least.{AreLeastBounds, IsFirstRecursive}, specs.Order.{greater, call_words, greatest_call}}
use Rattle.space_cert.specs.Order.{run_bound, with_bound, bounds_of_order, greatest_call_by, run_bound_by, bounds_by_needs, AreBounds}
use Rattle.space_cert.{specs.Internal.Search.AreDone, specs.Internal.SearchState.{call_of, IsFound}, specs.Internal.SearchView.{AreCalls, seen_calls}}
use Rattle.space_cert.{proofs.AllLaws.all_left, proofs.ContainsLaws.{contains_none, contains_first, contains_later, contains_cases}}
use Rattle.space_cert.proofs.LeastLaws.{calls_least, known_now, bound_other, some_same, none_at, least_by}

-- the callees of each procedure, in order
abbrev pub body_calls : Program → List (List ℕ)
body_calls q = map (λ (p : Proc). callees p.body) q.procs

pub calls_same : (procs : List Proc) (p : ℕ) → get_or (map (λ (p : Proc). callees p.body) procs) p [] ≡ callees (get_or procs p no_proc).body
calls_same [] p = refl
calls_same (c ∷ procs) zero = refl
calls_same (c ∷ procs) (suc p) = calls_same procs p

pub calls_are : (q : Program) → call_of (body_calls q) ≡ calls_of q
calls_are q = λ i. λ p. calls_same q.procs p i

-- Each callee is there.

module _ (q : Program) where
  callees_below : (shapes : List Shape) (n : ℕ) (in_loop : Bool) (s : Stmt) → StmtFits q shapes n in_loop s → All (λ r. r < length q.procs) (callees s)
  callees_below shapes n b Skip h = All-nil (λ r. r < length q.procs)
  callees_below shapes n b (NoOp place) h = All-nil (λ r. r < length q.procs)
  callees_below shapes n b (Signal place c) h = All-nil (λ r. r < length q.procs)
  callees_below shapes n b (Seq s w) h =
      All-append (λ r. r < length q.procs) (callees s) (callees w) (callees_below shapes n b s h.0) (callees_below shapes n b w h.1)
  callees_below shapes n b (Loop place s) h = callees_below shapes n true s h
  callees_below shapes n b (If place i s w) h =
      All-append (λ r. r < length q.procs) (callees s) (callees w) (callees_below shapes n b s h.1) (callees_below shapes n b w h.2)
  callees_below shapes n b (Begin place s cs w) h =
      All-append (λ r. r < length q.procs) (callees s) (callees w) (callees_below shapes n b s h.1) (callees_below shapes n b w h.2)
  callees_below shapes n b (Call place c xs cs) h = All-cons (λ r. r < length q.procs) c [] h.callee (All-nil (λ r. r < length q.procs))
  callees_below shapes n b (Apply place r args) h = All-nil (λ r. r < length q.procs)

  pub calls_below : ProgramFits q → (p : ℕ) → All (λ r. r < length q.procs) (calls_of q p)
  calls_below fits p = callees_below (shapes_of (proc_at q p)) (conds_of (proc_at q p)) false (body_of q p) (fits.procs p).body

  pub are_calls : ProgramFits q → AreCalls (body_calls q)
  are_calls fits a c k =
      let there : Contains (calls_of q a) c = subst (λ x. Contains x c) (calls_same q.procs a) k in
      let lt = All-contains (λ r. r < length q.procs) (calls_of q a) c (calls_below fits a) there in
      omega (arith, lt, length-map q.procs (λ (p : Proc). callees p.body))

  -- By the needs.

  greatest_same : (ns : List Need) → AreNeeds q ns → (bs : Bounds) (ps : List ℕ) (w : StackSizes) → All (λ r. r < length q.procs) ps
      → greatest_call_by ns bs ps w ≡ greatest_call q bs ps w
  greatest_same ns h bs [] w lt = refl
  greatest_same ns h bs (p ∷ ps) w lt = cc (
    h.each p (All-head (λ r. r < length q.procs) p ps lt),
    greatest_same ns h bs ps (greater w (call_words q bs p)) (All-tail (λ r. r < length q.procs) p ps lt),
  )

  pub along_same : (ns : List Need) → AreNeeds q ns → ProgramFits q → (order : List ℕ) → All (λ r. r < length q.procs) order
      → bounds_by_needs ns (body_calls q) order ≡ bounds_of_order q order
  along_same ns h fits [] lt = none_same
    where
      none_same : bounds_by_needs ns (body_calls q) [] ≡ bounds_of_order q []
      none_same = ap no_bounds (length-map q.procs (λ (p : Proc). callees p.body))
  along_same ns h fits (p ∷ before) lt =
      let old = along_same ns h fits before (All-tail (λ r. r < length q.procs) p before lt) in
      let own : stack_sizes (need_at ns p).ctrl (need_at ns p).temp ≡ own_need (proc_at q p) =
      ap (λ (n : Need). stack_sizes n.ctrl n.temp) (h.each p (All-head (λ r. r < length q.procs) p before lt)) in
      let run : run_bound_by ns (bounds_of_order q before) (call_of (body_calls q) p) p ≡ run_bound q (bounds_of_order q before) p =
      (λ i. greatest_call_by ns (bounds_of_order q before) (calls_same q.procs p i) (own i)) ∙ greatest_same ns h _ _ _ (calls_below fits p) in
      ap (λ bs. with_bound bs p (run_bound_by ns bs (call_of (body_calls q) p) p)) old ∙ ap (with_bound (bounds_of_order q before) p) run

  -- No bound is large.

  pub small_words : (p : Proc) → ProcFits q p → local_words p + vars_of p ≤ 131072
  small_words p h =
      let shapes = map (λ (v : ValueOf). v.shape) p.locals in
      omega (arith, words_of-append p.formals shapes, length-words_of p.formals, length-words_of shapes, length-map p.locals (λ (v : ValueOf). v.shape))

  -- twice so many words a procedure
  abbrev limit : ℕ → StackSizes
  limit k = stack_sizes (k * 262144) (k * 262144)

  calls_small : (fits : ProgramFits q) (bs : Bounds) (k : ℕ) → ((r : ℕ) (b : StackSizes) → bound_at bs r ≡ Some b → IsAtMost b (limit k))
      → (ps : List ℕ) → All (λ r. IsAtMost (call_words q bs r) (limit (k + 1))) ps
  calls_small fits bs k f [] = All-nil (λ r. IsAtMost (call_words q bs r) (limit (k + 1)))
  calls_small fits bs k f (r ∷ ps) = All-cons (λ x. IsAtMost (call_words q bs x) (limit (k + 1))) r ps (pick (bound_at bs r) refl) (calls_small fits bs k f ps)
    where
      bounded : (d : StackSizes) → IsAtMost d (limit k) → IsAtMost (call_bound q r d) (limit (k + 1))
      bounded d h =
          let words = small_words _ (fits.procs r) in
          record { temp = more _ _ d.temp k words h.temp; ctrl = under _ _ d.ctrl k words h.ctrl }
        where
          more : (l v d k : ℕ) → l + v ≤ 131072 → d ≤ k * 262144 → max (l + v) (l + d) ≤ (k + 1) * 262144
          more l v d k h g = omega (arith, h, g)

          under : (l v d k : ℕ) → l + v ≤ 131072 → d ≤ k * 262144 → 2 + v + d ≤ (k + 1) * 262144
          under l v d k h g = omega (arith, h, g)

      pick : (o : Option StackSizes) → bound_at bs r ≡ o → IsAtMost (call_bound q r (unwrap_or o (stack_sizes 0 0))) (limit (k + 1))
      pick None e = bounded (stack_sizes 0 0) record { temp = omega arith; ctrl = omega arith }
      pick (Some d) e = bounded d (f r d e)

  pub small_by : ProgramFits q → (order : List ℕ) → All (λ r. r < length q.procs) order → (r : ℕ) (b : StackSizes)
      → bound_at (bounds_of_order q order) r ≡ Some b → IsAtMost b (limit (length order))
  small_by fits [] lt r b e = absurd (none_some (sym (none_at (length q.procs) r) ∙ e))
    where
      none_some : None ≡ Some b → ⊥
      none_some e = cc
  small_by fits (p ∷ before) lt r b e =
      let k = length before in
      let old = small_by fits before (All-tail (λ x. x < length q.procs) p before lt) in
      elim (cases_eq r p) [
        | inl i ↦
            let now = known_now q p before (All-head (λ x. x < length q.procs) p before lt) in
            let is : run_bound q (bounds_of_order q before) p ≡ b = some_same (sym now ∙ (ap (bound_at (bounds_of_order q (p ∷ before))) (sym i) ∙ e)) in
            subst (λ w. IsAtMost w (limit (suc k))) is (subst (λ n. IsAtMost (run_bound q (bounds_of_order q before) p) (limit n)) (succ k)
            (calls_least q (bounds_of_order q before) (calls_of q p) (own_need (proc_at q p)) (limit (k + 1)) (own_small (proc_at q p) k)
            (calls_small fits (bounds_of_order q before) k old (calls_of q p))))
        | inr d ↦ grows (old r b (sym (bound_other (bounds_of_order q before) p r (run_bound q (bounds_of_order q before) p) d) ∙ e))
      ]
    where
      succ : (k : ℕ) → k + 1 ≡ suc k
      succ k = omega arith

      own_small : (p : Proc) (k : ℕ) → IsAtMost (own_need p) (limit (k + 1))
      own_small p k = record {
        temp = omega (arith, greatest_within 2 predef_temp 4 (omega arith) low_temp p.body);
        ctrl = omega (arith, greatest_within 0 predef_ctrl 10 (omega arith) low_ctrl p.body);
      }

      grows : IsAtMost b (limit (length before)) → IsAtMost b (limit (suc (length before)))
      grows h = record { temp = omega (arith, h.temp); ctrl = omega (arith, h.ctrl) }

  pub are_bounds : ProgramFits q → (order : List ℕ) → All (λ r. r < length q.procs) order → length order ≤ 1000000 → AreBounds (bounds_of_order q order)
  are_bounds fits order lt few r b e =
      let h = small_by fits order lt r b e in
      (omega (arith, h.temp, few), omega (arith, h.ctrl, few))

  -- What is found.

  in_done : (done : List ℕ) → ((a c : ℕ) → Contains done a → Contains (calls_of q a) c → Contains done c) → (p r : ℕ) → Contains done p
      → Reaches (calls_of q) p r → Contains done r
  in_done done closed p r k (Directly h) = closed p r k h
  in_done done closed p r k (Further {r = s} h g) = closed s r (in_done done closed p s k h) g

  reached_done : (done : List ℕ) → ((a c : ℕ) → Contains done a → Contains (calls_of q a) c → Contains done c) → Contains done q.main → (p : ℕ)
      → IsReached q p → Contains done p
  reached_done done closed k p (inl e) = subst (Contains done) e k
  reached_done done closed k p (inr h) = in_done done closed q.main p k h

  all_of : (P : ℕ → Type 0) (xs : List ℕ) → ((p : ℕ) → Contains xs p → P p) → All P xs
  all_of P [] f = All-nil P
  all_of P (x ∷ xs) f = All-cons P x xs (f x (contains_first x xs)) (all_of P xs (λ p k. f p (contains_later x xs p k)))

  module _ (done : List ℕ) (first : Option ℕ) (found : IsFound (body_calls q) q.main done first) where
    done_are : AreDone (calls_of q) done first
    done_are = subst (λ f. AreDone f done first) (calls_are q) found.done_are

    leads : (p : ℕ) → Contains done p → IsReached q p
    leads p k = subst (λ f. Leads f q.main p) (calls_are q) (found.leads p k)

    pub done_below : All (λ p. p < length q.procs) done
    done_below = all_of (λ p. p < length q.procs) done (λ p k. subst (λ n. p < n) (length-map q.procs (λ (p : Proc). callees p.body)) (found.below p k))

    pub done_few : length done ≤ length q.procs
    done_few = omega (arith, found.few, length-map q.procs (λ (p : Proc). callees p.body))

    pub found_least : first ≡ None → AreLeastBounds q (bounds_of_order q done)
    found_least e = least_by q done (done_are.order e) done_below (all_of (IsReached q) done leads) found.main_there

    pub found_recursive : (r : ℕ) → first ≡ Some r → IsFirstRecursive q r
    found_recursive r e = record {
      recursive = record { reached = leads r (done_are.circular r e).0; again = (done_are.circular r e).1 };
      first = λ s lt h. no s lt (done_are.least s (reached_done done done_are.closed found.main_there s h.reached) h.again);
    }
      where
        no : (s : ℕ) → s < r → (t : ℕ) × (first ≡ Some t) × (t ≤ s) → ⊥
        no s lt (t, i, le) = omega (arith, lt, le, ap (λ o. unwrap_or o 0) (sym e ∙ i))

-- As the code has it.

reversed_there : (xs : List ℕ) (x : ℕ) → Contains xs x → Contains (reverse xs) x
reversed_there [] x k = absurd (contains_none k)
reversed_there (y ∷ xs) x k = subst (λ l. Contains l x) (sym (reverse-append (y ∷ []) xs))
    (elim (contains_cases y xs x k) [ inl e ↦ subst (Contains _) e (Contains-push _ y) | inr l ↦ Contains-append_left _ (y ∷ []) x (reversed_there xs x l) ])

all_reversed : (P : ℕ → Type 0) (xs : List ℕ) → All P (reverse xs) → All P xs
all_reversed P [] h = All-nil P
all_reversed P (x ∷ xs) h = All-cons P x xs (All-contains P _ x h (reversed_there (x ∷ xs) x (contains_first x xs)))
    (all_reversed P xs (λ k d lt. front (subst (All P) (reverse-append (x ∷ []) xs) h) k d lt))
  where
    front : All P (reverse xs ++ x ∷ []) → All P (reverse xs)
    front g = all_left P (reverse xs) (x ∷ []) g

to_reversed : (P : ℕ → Type 0) (xs : List ℕ) → All P xs → All P (reverse xs)
to_reversed P xs h = all_reversed P (reverse xs) (subst (All P) (sym (reverse-reverse xs)) h)

module _ (q : Program) (fits : ProgramFits q) (few : length q.procs ≤ 1000) (ns : List Need) (needs : AreNeeds q ns) (calls : List (Vec ℕ))
    (are : seen_calls calls ≡ body_calls q) where
  pub calls_many : length calls ≡ length q.procs
  calls_many = sym (length-map calls (λ v. v.items)) ∙ (ap length are ∙ length-map q.procs (λ (p : Proc). callees p.body))

  pub calls_there : AreCalls (seen_calls calls)
  calls_there = subst AreCalls (sym are) (are_calls q fits)

  module _ (order : List ℕ) (first : Option ℕ) (found : IsFound (seen_calls calls) q.main (reverse order) first) where
    found_by : IsFound (body_calls q) q.main (reverse order) first
    found_by = subst (λ cs. IsFound cs q.main (reverse order) first) are found

    all_below : All (λ p. p < length q.procs) order
    all_below = all_reversed (λ p. p < length q.procs) order (done_below q (reverse order) first found_by)

    pub order_below : All (λ p. p < length calls) order
    order_below = subst (λ n. All (λ p. p < n) order) (sym calls_many) all_below

    along_is : (k : ℕ) → bounds_by_needs ns (seen_calls calls) (reverse (take k order)) ≡ bounds_of_order q (reverse (take k order))
    along_is k = ap (λ cs. bounds_by_needs ns cs (reverse (take k order))) are ∙ along_same q ns needs fits (reverse (take k order))
        (to_reversed (λ p. p < length q.procs) (take k order) (All-take (λ p. p < length q.procs) k order all_below))

    pub prefix_bounds : (k : ℕ) → AreBounds (bounds_by_needs ns (seen_calls calls) (reverse (take k order)))
    prefix_bounds k =
        let short : length (reverse (take k order)) ≤ 1000000 =
        omega (arith, length-reverse (take k order), length-take k order, length-reverse order, done_few q (reverse order) first found_by, few) in
        subst AreBounds (sym (along_is k)) (are_bounds q fits (reverse (take k order))
        (to_reversed (λ p. p < length q.procs) (take k order) (All-take (λ p. p < length q.procs) k order all_below)) short)

    whole : take (length order) order ≡ order
    whole = take_all (length order) order (omega arith)

    pub all_small : AreBounds (bounds_by_needs ns (seen_calls calls) (reverse order))
    all_small = subst (λ o. AreBounds (bounds_by_needs ns (seen_calls calls) (reverse o))) whole (prefix_bounds (length order))

    pub is_least : first ≡ None → AreLeastBounds q (bounds_by_needs ns (seen_calls calls) (reverse order))
    is_least e =
        let along : bounds_by_needs ns (seen_calls calls) (reverse order) ≡ bounds_of_order q (reverse order) =
        subst (λ o. bounds_by_needs ns (seen_calls calls) (reverse o) ≡ bounds_of_order q (reverse o)) whole (along_is (length order)) in
        subst (AreLeastBounds q) (sym along) (found_least q (reverse order) first found_by e)

    pub is_first : (r : ℕ) → first ≡ Some r → IsFirstRecursive q r
    is_first r e = found_recursive q (reverse order) first found_by r e
