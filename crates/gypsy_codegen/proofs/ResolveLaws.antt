-- With places for its labels, the lines of a statement are its code by places.
use Rattle.std.proofs.Common.{◌≡◌, ℕ, suc, ◌+◌, ◌*◌, ◌-◌, List, [], ◌∷◌, ◌++◌, map, length, Bool, true, false, cond, Option, Some, unwrap_or, refl, ap, subst}
use Rattle.std.{proofs.Common.{◌∙◌, arith, append_assoc, length-append}, proofs.lemmas.List.length-map}
use Rattle.stack_text.{specs.declared.shape.Shape.Shape, specs.Values.item_count}
use Rattle.piton_words.{specs.declared.word.Word.Word, specs.declared.word.Word.TheVariants.Nat}
use Rattle.piton_words.specs.declared.op.WordOp.TheVariants as op
use Rattle.piton_syntax.specs.declared.test_kind.TestFamily.TheVariants as family
use Rattle.piton_syntax.specs.declared.test_kind.TestKind.TheVariants as test
use Rattle.piton_check.specs.Instruction as i
use Rattle.piton_check.specs.Instruction.{Instruction}
use Rattle.gypsy_syntax.{specs.declared.predef.Predef.Predef, specs.Programs.{ConditionOf, Routine, Space, Arg, Var, Lit, Program, proc_at, body_of, shapes_of}}
use Rattle.gypsy_syntax.{specs.Programs.{Stmt, Skip, NoOp, Signal, Seq, Loop, If, Begin, Call, Apply}, specs.Effects.item_of_value, specs.Predefined.can_fail}
use Rattle.gypsy_syntax.specs.declared.predef.Predef.TheVariants as row
use Rattle.gypsy_space.specs.Needs.{StackSizes, local_words, call_need}
use Rattle.gypsy_semantics.specs.Calls.{has_cond, is_leave, is_passed_on}
use Rattle.gypsy_predef.{specs.Runs.word_of_item, specs.Bodies.lengths_of, specs.Calls.test_code}
use Rattle.gypsy_codegen.{specs.WordsOf.{words_of_values, local_shapes, number_of}, specs.Guard.{guard_code, guard_size}, specs.Generated.{Scope, InLoop}}
use Rattle.gypsy_codegen.specs.Generated.{InBegin, target, raise_code, back_code, raises, raise_places, after_code, push_words, push_indices, push_actuals}
use Rattle.gypsy_codegen.{specs.Generated.{push_args, before_size, length_code, predef_position, offset, size, gen, code_of}, specs.Written.{Line, Plain}}
use Rattle.gypsy_codegen.{specs.Written.{Marked, line_with_places}, specs.Lines.{labels, label_to, unmarked, marked_raise, marked_raises, raise_labels}}
use Rattle.gypsy_codegen.{specs.Lines.{before_code, after_lines, apply_code, lines, tail_lines, lines_of}, proofs.PushLaws.{size_words, size_indices}}
use Rattle.gypsy_codegen.{proofs.PushLaws.{size_actuals, size_args}, proofs.StandLaws.{size_length, size_check}, proofs.LabelLaws.Good}

-- ---- how many lines

module _ (q : Program) (p : ℕ) where
  plain_count : (is : List Instruction) → length (unmarked is) ≡ length is
  plain_count [] = refl
  plain_count (c ∷ is) = ap suc (plain_count is)

  raises_count : (env : List Scope) (l : ℕ) (cs : List ConditionOf) → length (marked_raises q p env l cs) ≡ 3 * length cs
  raises_count env l [] = refl
  raises_count env l (c ∷ cs) = omega (arith, raises_count env (l + 1) cs)

  pub before_count : (c : ℕ) (xs : List ℕ) → length (before_code q p c xs) ≡ before_size q c xs
  before_count c xs =
      let d = proc_at q c in
      let indices = push_indices (local_words d) 0 0 (local_shapes d) in
      let last = i.Call c ∷ [] in
      omega (
        arith,
        length-append (push_words (words_of_values d.locals)) (indices ++ (push_actuals q p xs ++ last)),
        length-append indices (push_actuals q p xs ++ last),
        length-append (push_actuals q p xs) last,
        size_words (words_of_values d.locals),
        size_indices (local_words d) 0 0 (local_shapes d),
        length-map d.locals (λ v. v.shape),
        size_actuals q p xs,
      )

  length_count : (shapes : List Shape) (r : Predef) (args : List Arg) (rest : List Instruction)
      → length (length_code shapes r args ++ rest) ≡ lengths_of r + length rest
  length_count shapes r args rest = length-append (length_code shapes r args) rest ∙ ap (λ n. n + length rest) (size_length shapes r args)

  pub lines_count : (env : List Scope) (l : ℕ) (s : Stmt) → length (lines q p env l s) ≡ size q s
  lines_count env l Skip = refl
  lines_count env l (NoOp place) = refl
  lines_count env l (Signal place c) = refl
  lines_count env l (Seq a b) =
      omega (arith, length-append (lines q p env l a) (lines q p env (l + labels a) b), lines_count env l a, lines_count env (l + labels a) b)
  lines_count env l (Loop place s) =
      let e = InLoop (l + 1) ∷ env in
      omega (
        arith,
        length-append (lines q p e (l + 2) s) (Plain (i.Jump l) ∷ Marked (l + 1) (i.PushConstant (Nat 2)) ∷ Plain (i.PopGlobal 0) ∷ []),
        lines_count e (l + 2) s,
      )
  lines_count env l (If place b s v) =
      let tv = lines q p env (l + 2 + labels s) v in
      omega (
        arith,
        length-append (lines q p env (l + 2) s) (Plain (i.Jump (l + 1)) ∷ Marked l i.NoOp ∷ (tv ++ Marked (l + 1) i.NoOp ∷ [])),
        length-append tv (Marked (l + 1) i.NoOp ∷ []),
        lines_count env (l + 2) s,
        lines_count env (l + 2 + labels s) v,
      )
  lines_count env l (Begin place s cs v) =
      let e = InBegin cs l ∷ env in
      let tv = lines q p env (l + 2 + labels s) v in
      omega (
        arith,
        length-append (lines q p e (l + 2) s) (Plain (i.Jump (l + 1)) ∷ Marked l (i.PushConstant (Nat 2)) ∷ Plain (i.PopGlobal 0)
            ∷ (tv ++ Marked (l + 1) i.NoOp ∷ [])),
        length-append tv (Marked (l + 1) i.NoOp ∷ []),
        lines_count e (l + 2) s,
        lines_count env (l + 2 + labels s) v,
      )
  lines_count env l (Call place c xs cs) =
      let rs = marked_raises q p env (l + 3) cs in
      omega (
        arith,
        length-append (unmarked (before_code q p c xs)) (after_lines q p env l (local_words (proc_at q c)) cs),
        plain_count (before_code q p c xs),
        before_count c xs,
        length-append rs (Marked (l + 1) i.NoOp ∷ []),
        raises_count env (l + 3) cs,
      )
  lines_count env l (Apply place r args) =
      let to = label_to q p env Routine in
      let rest = i.Call (predef_position q r) ∷ test_code r to in
      omega (
        arith,
        plain_count (apply_code q p env (Apply place r args)),
        length-append (push_args q p args) (length_code (shapes_of (proc_at q p)) r args ++ rest),
        size_args q p args,
        length_count (shapes_of (proc_at q p)) r args rest,
        size_check (can_fail r) (i.PushGlobal 0) (i.Apply op.Sub1Nat) (i.TestAndJump family.Nat test.Zero to),
      )

-- ---- places

good_front : (f : ℕ → Option ℕ) (at : ℕ) (a b : List Line) → Good f at (a ++ b) → Good f at a
good_front f at [] b g = tt
good_front f at (Plain i ∷ a) b g = good_front f (at + 1) a b g
good_front f at (Marked m i ∷ a) b g = (g.0, good_front f (at + 1) a b g.1)

good_back : (f : ℕ → Option ℕ) (at to : ℕ) (a b : List Line) → at + length a ≡ to → Good f at (a ++ b) → Good f to b
good_back f at to [] b e g = let h : at ≡ to = omega (arith, e) in subst (λ i. Good f i b) h g
good_back f at to (Plain i ∷ a) b e g = good_back f (at + 1) to a b (omega (arith, e)) g
good_back f at to (Marked m i ∷ a) b e g = good_back f (at + 1) to a b (omega (arith, e)) g.1

-- the scopes with places
abbrev env_of : (ℕ → ℕ) → List Scope → List Scope
env_of f [] = []
env_of f (InLoop b ∷ env) = InLoop (f b) ∷ env_of f env
env_of f (InBegin cs a ∷ env) = InBegin cs (f a) ∷ env_of f env

mapped-append : (g : Line → Instruction) (a b : List Line) → map g (a ++ b) ≡ map g a ++ map g b
mapped-append g [] b = refl
mapped-append g (x ∷ a) b = ap (λ l. g x ∷ l) (mapped-append g a b)

unmarked-append : (a b : List Instruction) → unmarked (a ++ b) ≡ unmarked a ++ unmarked b
unmarked-append [] b = refl
unmarked-append (x ∷ a) b = ap (λ l. Plain x ∷ l) (unmarked-append a b)

-- where a label stands
abbrev pub found : (ℕ → Option ℕ) → ℕ → ℕ
found f l = unwrap_or (f l) 0

stands : (f : ℕ → Option ℕ) (l at : ℕ) → f l ≡ Some at → found f l ≡ at
stands f l at e = ap (λ o. unwrap_or o 0) e

-- instructions that name no label stay as they are
abbrev Stays : (ℕ → ℕ) → List Instruction → Type 0
Stays g is = map (line_with_places g) (unmarked is) ≡ is

stays_both : (g : ℕ → ℕ) (a b : List Instruction) → Stays g a → Stays g b → Stays g (a ++ b)
stays_both g [] b x y = y
stays_both g (c ∷ a) b x y = stays_front
  where
    stays_front : Stays g (c ∷ a ++ b)
    stays_front = ap (map (line_with_places g)) (unmarked-append (c ∷ a) b) ∙ mapped-append (line_with_places g) (unmarked (c ∷ a)) (unmarked b)
        ∙ ap (λ z. z ++ map (line_with_places g) (unmarked b)) x ∙ ap (λ z. (c ∷ a) ++ z) y

module _ (q : Program) (p n : ℕ) (f : ℕ → Option ℕ) (zero_at : f 0 ≡ Some (n + 1)) (one_at : f 1 ≡ Some (n + 3)) where
  abbrev g : ℕ → ℕ
  g l = found f l

  abbrev see : Line → Instruction
  see = line_with_places g

  pick_place : (b : Bool) (l m a c : ℕ) → g l ≡ a → g m ≡ c → g (cond b l m) ≡ cond b a c
  pick_place true l m a c x y = x
  pick_place false l m a c x y = y

  target_is : (env : List Scope) (c : ConditionOf) → g (label_to q p env c) ≡ target q p n (env_of g env) c
  target_is [] c = pick_place (is_passed_on q p c) 1 0 (n + 3) (n + 1) (stands f 1 (n + 3) one_at) (stands f 0 (n + 1) zero_at)
  target_is (InLoop b ∷ env) c = pick_place (is_leave c) b (label_to q p env c) (g b) _ refl (target_is env c)
  target_is (InBegin cs a ∷ env) c = pick_place (has_cond c cs) a (label_to q p env c) (g a) _ refl (target_is env c)

  words_stay : (ws : List Word) → Stays g (push_words ws)
  words_stay [] = refl
  words_stay (w ∷ ws) = ap (λ z. i.PushConstant w ∷ z) (words_stay ws)

  indices_stay : (l k o : ℕ) (shapes : List Shape) → Stays g (push_indices l k o shapes)
  indices_stay l k o [] = refl
  indices_stay l k o (s ∷ shapes) = ap (λ z. i.PushTempStkIndex (l + k - 1 - o) ∷ z) (indices_stay l (k + 1) (o + item_count s) shapes)

  actuals_stay : (xs : List ℕ) → Stays g (push_actuals q p xs)
  actuals_stay [] = refl
  actuals_stay (x ∷ xs) = ap (λ z. i.PushLocal (offset q p x) ∷ z) (actuals_stay xs)

  args_stay : (args : List Arg) → Stays g (push_args q p args)
  args_stay [] = refl
  args_stay (Var b ∷ args) = ap (λ z. i.PushLocal (offset q p b) ∷ z) (args_stay args)
  args_stay (Lit v ∷ args) = ap (λ z. i.PushConstant (word_of_item v.shape.kind (item_of_value v)) ∷ z) (args_stay args)

  length_stays : (shapes : List Shape) (r : Predef) (args : List Arg) → Stays g (length_code shapes r args)
  length_stays shapes row.MgSimpleVariableAssignment args = refl
  length_stays shapes r args = refl

  before_stays : (c : ℕ) (xs : List ℕ) → Stays g (before_code q p c xs)
  before_stays c xs =
      let d = proc_at q c in
      stays_both g (push_words (words_of_values d.locals)) _ (words_stay (words_of_values d.locals))
      (stays_both g (push_indices (local_words d) 0 0 (local_shapes d)) _ (indices_stay (local_words d) 0 0 (local_shapes d))
      (stays_both g (push_actuals q p xs) (i.Call c ∷ []) (actuals_stay xs) refl))

  raises_resolve : (env : List Scope) (l : ℕ) (cs : List ConditionOf) → map see (marked_raises q p env l cs) ≡ raises q p n (env_of g env) cs
  raises_resolve env l [] = refl
  raises_resolve env l (c ∷ cs) =
      ap (λ z. i.PushConstant (Nat (number_of c)) ∷ i.PopGlobal 0 ∷ i.Jump z ∷ map see (marked_raises q p env (l + 1) cs)) (target_is env c)
      ∙ ap (λ z. i.PushConstant (Nat (number_of c)) ∷ i.PopGlobal 0 ∷ i.Jump (target q p n (env_of g env) c) ∷ z) (raises_resolve env (l + 1) cs)

  raise_labels_stand : (env : List Scope) (l at : ℕ) (cs : List ConditionOf) → Good f at (marked_raises q p env l cs)
      → map g (raise_labels l cs) ≡ raise_places at cs
  raise_labels_stand env l at [] h = refl
  raise_labels_stand env l at (c ∷ cs) h =
      let three_on : at + 1 + 1 + 1 ≡ at + 3 = omega arith in
      ap (λ z. z ∷ map g (raise_labels (l + 1) cs)) (stands f l at h.0)
      ∙ ap (λ z. at ∷ z) (raise_labels_stand env (l + 1) (at + 3) cs (subst (λ j. Good f j (marked_raises q p env (l + 1) cs)) three_on h.1))

  -- where spaceerror is raised
  space_stands : (env : List Scope) (l at m : ℕ) (cs : List ConditionOf) → Good f at (after_lines q p env l m cs) → g (l + 2) ≡ at + 6
  space_stands env l at m cs h = let six_on : at + 1 + 1 + 1 + 1 + 1 + 1 ≡ at + 6 = omega arith in stands f (l + 2) _ h.1.0 ∙ six_on

  -- a raise that has a label, and what follows it
  raise_resolves : (env : List Scope) (l : ℕ) (c : ConditionOf) (rest : List Line) (code : List Instruction) → map see rest ≡ code
      → map see (marked_raise q p env l c ++ rest) ≡ raise_code q p n (env_of g env) c ++ code
  raise_resolves env l c rest code h =
      ap (λ z. i.PushConstant (Nat (number_of c)) ∷ i.PopGlobal 0 ∷ i.Jump z ∷ map see rest) (target_is env c)
      ∙ ap (λ z. raise_code q p n (env_of g env) c ++ z) h

  -- the guard, where its label stands
  guard_resolves : (need : StackSizes) (l to : ℕ) → g l ≡ to → map see (unmarked (guard_code need l)) ≡ guard_code need to
  guard_resolves need l to e = ap (guard_code need) e

  after_resolves : (env : List Scope) (l at m : ℕ) (cs : List ConditionOf) → Good f at (after_lines q p env l m cs)
      → map see (after_lines q p env l m cs) ≡ after_code q p n (env_of g env) at m cs
  after_resolves env l at m cs h =
      let rs = marked_raises q p env (l + 3) cs in
      let last = Marked (l + 1) i.NoOp ∷ [] in
      let e = env_of g env in
      let three_on : at + 1 + 1 + 1 ≡ at + 3 = omega arith in
      let nine_on : at + 1 + 1 + 1 + 1 + 1 + 1 + 1 + 1 + 1 ≡ at + 9 = omega arith in
      let rest = subst (λ j. Good f j (rs ++ last)) nine_on h.1.1 in
      let end = good_back f (at + 9) (at + 9 + 3 * length cs) rs last (omega (arith, raises_count q p env (l + 3) cs)) rest in
      let la : g l ≡ at + 3 = stands f l _ h.0 ∙ three_on in
      let lb : g (l + 1) ≡ at + 9 + 3 * length cs = stands f (l + 1) _ end.0 in
      let lg : g (l + 2) ≡ at + 6 = space_stands env l at m cs h in
      let ls = raise_labels_stand env (l + 3) (at + 9) cs (good_front f (at + 9) rs last rest) in
      let cases : map g (l ∷ l ∷ (l + 1) ∷ (l + 2) ∷ raise_labels (l + 3) cs) ≡ (at + 3) ∷ (at + 3) ∷ (at + 9 + 3 * length cs) ∷ (at + 6)
      ∷ raise_places (at + 9) cs =
      ap (λ z. z ∷ z ∷ g (l + 1) ∷ g (l + 2) ∷ map g (raise_labels (l + 3) cs)) la
      ∙ ap (λ z. (at + 3) ∷ (at + 3) ∷ z ∷ g (l + 2) ∷ map g (raise_labels (l + 3) cs)) lb
      ∙ ap (λ z. (at + 3) ∷ (at + 3) ∷ (at + 9 + 3 * length cs) ∷ z ∷ map g (raise_labels (l + 3) cs)) lg
      ∙ ap (λ z. (at + 3) ∷ (at + 3) ∷ (at + 9 + 3 * length cs) ∷ (at + 6) ∷ z) ls in
      let tail : map see (rs ++ last) ≡ raises q p n e cs ++ i.NoOp ∷ [] =
      mapped-append see rs last ∙ ap (λ z. z ++ i.NoOp ∷ []) (raises_resolve env (l + 3) cs) in
      let space : map see (marked_raise q p env (l + 2) Space ++ (rs ++ last)) ≡ raise_code q p n e Space ++ (raises q p n e cs ++ i.NoOp ∷ []) =
      raise_resolves env (l + 2) Space (rs ++ last) _ tail in
      let routine : map see (marked_raise q p env l Routine ++ (marked_raise q p env (l + 2) Space ++ (rs ++ last))) ≡ raise_code q p n e Routine
      ++ (raise_code q p n e Space ++ (raises q p n e cs ++ i.NoOp ∷ [])) =
      raise_resolves env l Routine (marked_raise q p env (l + 2) Space ++ (rs ++ last)) _ space in
      ap (λ z. i.PopStar m ∷ i.PushGlobal 0 ∷ i.JumpCase z ∷ map see
      (marked_raise q p env l Routine ++ (marked_raise q p env (l + 2) Space ++ (rs ++ last)))) cases
      ∙ ap (λ z. i.PopStar m ∷ i.PushGlobal 0 ∷ i.JumpCase ((at + 3) ∷ (at + 3) ∷ (at + 9 + 3 * length cs) ∷ (at + 6) ∷ raise_places (at + 9) cs) ∷ z) routine

  check_resolves : (b : Bool) (to at : ℕ) → g to ≡ at →
      map see (unmarked (cond b (i.PushGlobal 0 ∷ i.Apply op.Sub1Nat ∷ i.TestAndJump family.Nat test.Zero to ∷ []) []))
      ≡ cond b (i.PushGlobal 0 ∷ i.Apply op.Sub1Nat ∷ i.TestAndJump family.Nat test.Zero at ∷ []) []
  check_resolves true to at e = ap (λ z. i.PushGlobal 0 ∷ i.Apply op.Sub1Nat ∷ i.TestAndJump family.Nat test.Zero z ∷ []) e
  check_resolves false to at e = refl

  -- the front stays, and what follows it resolves
  front_stays : (a b c : List Instruction) → Stays g a → map see (unmarked b) ≡ c → map see (unmarked (a ++ b)) ≡ a ++ c
  front_stays a b c x y =
      ap (map see) (unmarked-append a b) ∙ mapped-append see (unmarked a) (unmarked b) ∙ ap (λ z. z ++ map see (unmarked b)) x ∙ ap (λ z. a ++ z) y

  pub resolves : (env : List Scope) (l at : ℕ) (s : Stmt) → Good f at (lines q p env l s) → map see (lines q p env l s) ≡ gen q p n (env_of g env) at s
  resolves env l at Skip h = refl
  resolves env l at (NoOp place) h = refl
  resolves env l at (Signal place c) h = ap (λ z. i.PushConstant (Nat (number_of c)) ∷ i.PopGlobal 0 ∷ i.Jump z ∷ []) (target_is env c)
  resolves env l at (Seq a b) h =
      let ta = lines q p env l a in
      let tb = lines q p env (l + labels a) b in
      let hb = good_back f at (at + size q a) ta tb (omega (arith, lines_count q p env l a)) h in
      mapped-append see ta tb ∙ ap (λ z. z ++ map see tb) (resolves env l at a (good_front f at ta tb h))
      ∙ ap (λ z. gen q p n (env_of g env) at a ++ z) (resolves env (l + labels a) (at + size q a) b hb)
  resolves env l at (Loop place s) h =
      let e = InLoop (l + 1) ∷ env in
      let ts = lines q p e (l + 2) s in
      let end = Plain (i.Jump l) ∷ Marked (l + 1) (i.PushConstant (Nat 2)) ∷ Plain (i.PopGlobal 0) ∷ [] in
      let gt = good_back f (at + 1) (at + 1 + size q s) ts end (omega (arith, lines_count q p e (l + 2) s)) h.1 in
      ap (λ z. i.NoOp ∷ z) (mapped-append see ts end
      ∙ ap (λ z. z ++ map see end) (resolves e (l + 2) (at + 1) s (good_front f (at + 1) ts end h.1))
      ∙ ap (λ z. gen q p n (InLoop z ∷ env_of g env) (at + 1) s ++ map see end) (stands f (l + 1) _ gt.0)
      ∙ ap (λ z. gen q p n (InLoop (at + 1 + size q s + 1) ∷ env_of g env) (at + 1) s ++ back_code z) (stands f l at h.0))
  resolves env l at (If place b s v) h =
      let a2 = at + 3 + size q s in
      let ts = lines q p env (l + 2) s in
      let tv = lines q p env (l + 2 + labels s) v in
      let last = Marked (l + 1) i.NoOp ∷ [] in
      let rest = Plain (i.Jump (l + 1)) ∷ Marked l i.NoOp ∷ (tv ++ last) in
      let three_on : at + 1 + 1 + 1 ≡ at + 3 = omega arith in
      let body = subst (λ j. Good f j (ts ++ rest)) three_on h in
      let mid = good_back f (at + 3) a2 ts rest (omega (arith, lines_count q p env (l + 2) s)) body in
      let two_on : a2 + 1 + 1 ≡ a2 + 2 = omega arith in
      let other = subst (λ j. Good f j (tv ++ last)) two_on mid.1 in
      let end = good_back f (a2 + 2) (a2 + 2 + size q v) tv last (omega (arith, lines_count q p env (l + 2 + labels s) v)) other in
      let es = resolves env (l + 2) (at + 3) s (good_front f (at + 3) ts rest body) in
      let ev = resolves env (l + 2 + labels s) (a2 + 2) v (good_front f (a2 + 2) tv last other) in
      let la : g l ≡ a2 + 1 = stands f l _ mid.0 in
      let lb : g (l + 1) ≡ a2 + 2 + size q v = stands f (l + 1) _ end.0 in
      simp (mapped-append, es, ev, la, lb)
  resolves env l at (Begin place s cs v) h =
      let e = InBegin cs l ∷ env in
      let a2 = at + size q s in
      let ts = lines q p e (l + 2) s in
      let tv = lines q p env (l + 2 + labels s) v in
      let last = Marked (l + 1) i.NoOp ∷ [] in
      let rest = Plain (i.Jump (l + 1)) ∷ Marked l (i.PushConstant (Nat 2)) ∷ Plain (i.PopGlobal 0) ∷ (tv ++ last) in
      let mid = good_back f at a2 ts rest (omega (arith, lines_count q p e (l + 2) s)) h in
      let three_on : a2 + 1 + 1 + 1 ≡ a2 + 3 = omega arith in
      let other = subst (λ j. Good f j (tv ++ last)) three_on mid.1 in
      let end = good_back f (a2 + 3) (a2 + 3 + size q v) tv last (omega (arith, lines_count q p env (l + 2 + labels s) v)) other in
      let la : g l ≡ a2 + 1 = stands f l _ mid.0 in
      let lb : g (l + 1) ≡ a2 + 3 + size q v = stands f (l + 1) _ end.0 in
      let es = resolves e (l + 2) at s (good_front f at ts rest h) ∙ ap (λ z. gen q p n (InBegin cs z ∷ env_of g env) at s) la in
      let ev = resolves env (l + 2 + labels s) (a2 + 3) v (good_front f (a2 + 3) tv last other) in
      simp (mapped-append, es, ev, lb)
  resolves env l at (Call place c xs cs) h =
      let d = proc_at q c in
      let before = before_code q p c xs in
      let m = local_words d in
      let after = after_lines q p env l m cs in
      let at0 = at + guard_size in
      let to = at0 + before_size q c xs in
      let guard = guard_code (call_need q c) (l + 2) in
      let behind = good_back f at at0 (unmarked guard) (unmarked before ++ after) (omega arith) h in
      let rest = good_back f at0 to (unmarked before) after (omega (arith, plain_count q p before, before_count q p c xs)) behind in
      let guarded = guard_resolves (call_need q c) (l + 2) (to + 6) (space_stands env l to m cs rest) in
      let code = after_code q p n (env_of g env) to m cs in
      let indices = push_indices m 0 0 (local_shapes d) in
      mapped-append see (unmarked guard) (unmarked before ++ after) ∙ ap (λ z. z ++ map see (unmarked before ++ after)) guarded
      ∙ ap (λ z. guard_code (call_need q c) (to + 6) ++ z)
      (mapped-append see (unmarked before) after ∙ ap (λ z. z ++ map see after) (before_stays c xs) ∙ ap (λ z. before ++ z) (after_resolves env l to m cs rest)
      ∙ append_assoc (push_words (words_of_values d.locals)) (indices ++ (push_actuals q p xs ++ i.Call c ∷ [])) code
      ∙ ap (λ z. push_words (words_of_values d.locals) ++ z) (append_assoc indices (push_actuals q p xs ++ i.Call c ∷ []) code)
      ∙ ap (λ z. push_words (words_of_values d.locals) ++ (indices ++ z)) (append_assoc (push_actuals q p xs) (i.Call c ∷ []) code))
  resolves env l at (Apply place r args) h =
      let shapes = shapes_of (proc_at q p) in
      let to = label_to q p env Routine in
      front_stays (push_args q p args) _ _ (args_stay args)
      (front_stays (length_code shapes r args) _ _ (length_stays shapes r args)
      (ap (λ z. i.Call (predef_position q r) ∷ z) (check_resolves (can_fail r) to _ (target_is env Routine))))

-- the lines of a procedure, with the places where its labels stand
pub procedure_resolves : (q : Program) (p : ℕ) (f : ℕ → Option ℕ) → Good f 0 (lines_of q p) →
    map (line_with_places (found f)) (lines_of q p) ≡ code_of q p
procedure_resolves q p f good =
    let s = body_of q p in
    let n = size q s in
    let ts = lines q p [] 2 s in
    let back = good_back f 0 n ts tail_lines (omega (arith, lines_count q p [] 2 s)) good in
    let three_on : n + 1 + 1 + 1 ≡ n + 3 = omega arith in
    let one_at : f 1 ≡ Some (n + 3) = back.1.0 ∙ ap Some three_on in
    let es = resolves q p n f back.0 one_at [] 2 0 s (good_front f 0 ts tail_lines good) in
    mapped-append (line_with_places (found f)) ts tail_lines ∙ ap (λ z. z ++ map (line_with_places (found f)) tail_lines) es
    ∙ ap (λ z. gen q p n [] 0 s ++ (i.Jump z ∷ i.PushConstant (Nat 1) ∷ i.PopGlobal 0 ∷ i.Ret ∷ [])) (stands f 1 (n + 3) one_at)

pub procedure_count : (q : Program) (p : ℕ) → length (lines_of q p) ≡ size q (body_of q p) + 4
procedure_count q p = omega (arith, length-append (lines q p [] 2 (body_of q p)) tail_lines, lines_count q p [] 2 (body_of q p))
