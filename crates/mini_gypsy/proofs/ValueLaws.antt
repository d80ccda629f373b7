-- What the steps of an expression do: its worth comes to the temporary of its sort at a depth, and none below it changes.
use Rattle.std.proofs.Common.{◌≡◌, ◌≢◌, ℕ, suc, ◌+◌, ◌*◌, ◌<◌, ◌≤◌, List, [], ◌∷◌, ◌++◌, length, true, Some, None, refl, sym, ap, ap₂, subst, ◌∙◌, arith}
use Rattle.std.{specs.Prelude.{slice_set, pos}, proofs.lemmas.List.{length-set, get_or-set_same, get_or-set_other}}
use Rattle.stack_text.specs.Values.{ValueOf}
use Rattle.gypsy_syntax.{specs.declared.predef.Predef.Predef, specs.Predefined.{effect_by, predef_effect}, specs.Effects.{Normal, integer_value, truth_value}}
use Rattle.gypsy_syntax.{specs.Effects.{value_at, no_value}, specs.Programs.{Program, Arg, Var, Lit, Routine}}
use Rattle.gypsy_syntax.specs.declared.predef.Predef.TheVariants as row
use Rattle.gypsy_syntax.specs.Programs as gypsy
use Rattle.gypsy_space.specs.Needs.{StackSizes}
use Rattle.gypsy_semantics.{specs.Calls.values_of, specs.Meaning.{MeaningOutcome, Done, evaluate, then_do, applied}}
use Rattle.mini_syntax.{specs.declared.sort.Sort.Sort, specs.declared.sort.Sort.TheVariants.{Int, Bool}, specs.declared.operator.Prefix.Prefix}
use Rattle.mini_syntax.{specs.declared.operator.Infix.Infix, specs.Operands.{prefix_takes, infix_takes, sort_of, prefix_sort, infix_sort}, specs.Language.Exp}
use Rattle.mini_syntax.{specs.Language.{Variable, Before, Between}, specs.Sorted.{IsWellSorted, depth, depths}}
use Rattle.mini_syntax.specs.Language as language
use Rattle.mini_gypsy.{specs.Meant.{Worth, Number, Truth, Fault, prefix_worth, infix_worth, worth_in, expression_value, assigned}, specs.Steps.in_turn}
use Rattle.mini_gypsy.{specs.Steps.{temporary, temporary_at, prefix_row, infix_row, value_steps}, proofs.StateLaws.{read_declared, read_temporary}}
use Rattle.mini_gypsy.{proofs.StateLaws.{write_temporary, turn_append, turn_one}, proofs.RowLaws.{effect_of, applied_worth, prefix_number, prefix_truth}}
use Rattle.mini_gypsy.proofs.RowLaws.{infix_numbers, infix_truths, no_mixed, no_mixed_either, prefix_fault, infix_fault, infix_second}
use Rattle.mini_gypsy.proofs.HeldLaws.{HasSort, Holds, AreHeld, held_there, held_effect, value_sort}

-- with routineerror where it is a fault
abbrev pub ended : Worth → List ValueOf → MeaningOutcome
ended (Number z) x = Done x None
ended (Truth b) x = Done x None
ended Fault x = Done x (Some Routine)

-- temporaries of both sorts at depths apart
apart : (r s : Sort) (j k : ℕ) → j < k → k < depths → temporary r j ≢ temporary s k
apart Int Int j k lt small = omega arith
apart Int Bool j k lt small = omega arith
apart Bool Int j k lt small = omega arith
apart Bool Bool j k lt small = omega arith

inside : (s : Sort) (k : ℕ) → k < depths → temporary s k < 2 * depths
inside Int k small = omega arith
inside Bool k small = omega arith

depth_some : (e : Exp) → 0 < depth e
depth_some (Variable sort i) = omega arith
depth_some (language.Number n) = omega arith
depth_some (language.Truth b) = omega arith
depth_some (Before op e) = depth_some e
depth_some (Between op a b) = omega arith

module _ (q : Program) (sizes u : StackSizes) (m n : ℕ) where
  pub record Puts (steps : List gypsy.Stmt) (k : ℕ) (s : Sort) (w : Worth) (d t : List ValueOf) : Type 0 where
    pub after : List ValueOf
    pub many : length after ≡ length t
    pub runs : evaluate q sizes (suc m) (in_turn steps) u (d ++ t) ≡ ended w (d ++ after)
    pub holds : Holds w (value_at after (temporary s k))
    pub keeps : (r : Sort) (j : ℕ) → j < k → value_at after (temporary r j) ≡ value_at t (temporary r j)

  -- one predefined call
  put_one : (which : Predef) (args : List Arg) (k : ℕ) (s : Sort) (w : Worth) (d t : List ValueOf) → length d ≡ n → length t ≡ 2 * depths → k < depths →
      predef_effect which (values_of (d ++ t) (Var (temporary_at n s k) ∷ args)) ≡ effect_of w →
      Puts (gypsy.Apply 0 which (Var (temporary_at n s k) ∷ args) ∷ []) k s w d t
  put_one which args k s w d t count many small does = by_worth w does
    where
      x : List ValueOf
      x = d ++ t

      place : ℕ
      place = temporary s k

      call : gypsy.Stmt
      call = gypsy.Apply 0 which (Var (n + place) ∷ args)

      run : (v : Worth) → predef_effect which (values_of x (Var (n + place) ∷ args)) ≡ effect_of v →
          evaluate q sizes (suc m) (in_turn (call ∷ [])) u x ≡ assigned (n + place) v x
      run v e =
          turn_one q sizes m u call x ∙ ap (λ f. applied (Var (n + place) ∷ args) f x) e ∙ applied_worth (n + place) args v x

      within : place < length t
      within = let lt = inside s k small in omega (arith, many, lt)

      written : (v : ValueOf) (r : Sort) (j : ℕ) → j < k → value_at (slice_set t place v) (temporary r j) ≡ value_at t (temporary r j)
      written v r j lt = get_or-set_other t place (temporary r j) v no_value (apart r s j k lt small)

      by_worth : (v : Worth) → predef_effect which (values_of x (Var (n + place) ∷ args)) ≡ effect_of v → Puts (call ∷ []) k s v d t
      by_worth (Number z) e = record {
        after = slice_set t place (integer_value z);
        many = length-set t place (integer_value z);
        runs = run (Number z) e ∙ ap (λ (y : List ValueOf). Done y None) (write_temporary n d t place (integer_value z) count);
        holds = get_or-set_same t place (integer_value z) no_value within;
        keeps = written (integer_value z);
      }
      by_worth (Truth b) e = record {
        after = slice_set t place (truth_value b);
        many = length-set t place (truth_value b);
        runs = run (Truth b) e ∙ ap (λ (y : List ValueOf). Done y None) (write_temporary n d t place (truth_value b) count);
        holds = get_or-set_same t place (truth_value b) no_value within;
        keeps = written (truth_value b);
      }
      by_worth Fault e = record {
        after = t;
        many = refl;
        runs = run Fault e;
        holds = tt;
        keeps = λ r j lt. refl;
      }

  -- after steps that are done, others
  put_then : (first rest : List gypsy.Stmt) (k : ℕ) (s : Sort) (w : Worth) (d t t' : List ValueOf) →
      evaluate q sizes (suc m) (in_turn first) u (d ++ t) ≡ Done (d ++ t') None → length t' ≡ length t →
      ((r : Sort) (j : ℕ) → j < k → value_at t' (temporary r j) ≡ value_at t (temporary r j)) →
      Puts rest k s w d t' → Puts (first ++ rest) k s w d t
  put_then first rest k s w d t t' runs many keeps later = record {
    after = later.after;
    many = later.many ∙ many;
    runs =
        turn_append q sizes m u first rest (d ++ t)
        ∙ ap (λ (o : MeaningOutcome). then_do o (evaluate q sizes (suc m) (in_turn rest) u)) runs
        ∙ later.runs;
    holds = later.holds;
    keeps = λ r j lt. later.keeps r j lt ∙ keeps r j lt;
  }

  -- after a fault, nothing
  put_fault : (first rest : List gypsy.Stmt) (k j : ℕ) (s r : Sort) (d t : List ValueOf) → j ≤ k →
      Puts first k s Fault d t → Puts (first ++ rest) j r Fault d t
  put_fault first rest k j s r d t le before = record {
    after = before.after;
    many = before.many;
    runs =
        turn_append q sizes m u first rest (d ++ t)
        ∙ ap (λ (o : MeaningOutcome). then_do o (evaluate q sizes (suc m) (in_turn rest) u)) before.runs;
    holds = tt;
    keeps = λ p i lt. before.keeps p i (omega arith);
  }

  -- a step as if it put another worth
  same_worth : (steps : List gypsy.Stmt) (k : ℕ) (s : Sort) (v w : Worth) (d t : List ValueOf) → v ≡ w → Puts steps k s v d t → Puts steps k s w d t
  same_worth steps k s v w d t e puts = subst (λ (p : Worth). Puts steps k s p d t) e puts

  -- an operator before its operand
  prefix_effect : (op : Prefix) (r : Sort) (z : ValueOf) (x : List ValueOf) (i j : ℕ) → value_at x j ≡ z →
      predef_effect (prefix_row op) (values_of x (Var i ∷ Var j ∷ [])) ≡ effect_by (prefix_row op) (value_at (value_at x i ∷ z ∷ []))
  unfolding predef_effect values_of
  prefix_effect op r z x i j e = ap (λ (v : ValueOf). effect_by (prefix_row op) (value_at (value_at x i ∷ v ∷ []))) e

  put_prefix : (op : Prefix) (steps : List gypsy.Stmt) (r : Sort) (w : Worth) (k : ℕ) (d t : List ValueOf) → length d ≡ n → length t ≡ 2 * depths → k < depths →
      prefix_takes op r ≡ true → HasSort r w → Puts steps k r w d t →
      Puts (steps ++ gypsy.Apply 0 (prefix_row op) (Var (temporary_at n (prefix_sort op) k) ∷ Var (temporary_at n r k) ∷ []) ∷ []) k (prefix_sort op)
      (prefix_worth op w) d t
  put_prefix op steps r (Number z) k d t count many small takes same puts =
      let x : List ValueOf = d ++ puts.after in
      let read = read_temporary n d puts.after (temporary r k) count ∙ puts.holds in
      let takes' : prefix_takes op Int ≡ true = sym (ap (prefix_takes op) same) ∙ takes in
      put_then steps (gypsy.Apply 0 (prefix_row op) (Var (temporary_at n (prefix_sort op) k) ∷ Var (temporary_at n r k) ∷ []) ∷ []) k (prefix_sort op)
      (prefix_worth op (Number z)) d t puts.after puts.runs puts.many puts.keeps
      (put_one (prefix_row op) (Var (temporary_at n r k) ∷ []) k (prefix_sort op) (prefix_worth op (Number z)) d puts.after count (puts.many ∙ many) small
      (prefix_effect op r (integer_value z) x (temporary_at n (prefix_sort op) k) (temporary_at n r k) read
      ∙ prefix_number op (value_at x (temporary_at n (prefix_sort op) k)) z takes'))
  put_prefix op steps r (Truth b) k d t count many small takes same puts =
      let x : List ValueOf = d ++ puts.after in
      let read = read_temporary n d puts.after (temporary r k) count ∙ puts.holds in
      let takes' : prefix_takes op Bool ≡ true = sym (ap (prefix_takes op) same) ∙ takes in
      put_then steps (gypsy.Apply 0 (prefix_row op) (Var (temporary_at n (prefix_sort op) k) ∷ Var (temporary_at n r k) ∷ []) ∷ []) k (prefix_sort op)
      (prefix_worth op (Truth b)) d t puts.after puts.runs puts.many puts.keeps
      (put_one (prefix_row op) (Var (temporary_at n r k) ∷ []) k (prefix_sort op) (prefix_worth op (Truth b)) d puts.after count (puts.many ∙ many) small
      (prefix_effect op r (truth_value b) x (temporary_at n (prefix_sort op) k) (temporary_at n r k) read
      ∙ prefix_truth op (value_at x (temporary_at n (prefix_sort op) k)) b takes'))
  put_prefix op steps r Fault k d t count many small takes same puts =
      same_worth (steps ++ gypsy.Apply 0 (prefix_row op) (Var (temporary_at n (prefix_sort op) k) ∷ Var (temporary_at n r k) ∷ []) ∷ []) k
      (prefix_sort op) Fault (prefix_worth op Fault) d t (sym (prefix_fault op))
      (put_fault steps (gypsy.Apply 0 (prefix_row op) (Var (temporary_at n (prefix_sort op) k) ∷ Var (temporary_at n r k) ∷ []) ∷ []) k k r
      (prefix_sort op) d t (omega arith) puts)

  -- an operator between its operands, whose values stand in the temporaries
  infix_effect : (op : Infix) (y z : ValueOf) (x : List ValueOf) (i j l : ℕ) → value_at x j ≡ y → value_at x l ≡ z →
      predef_effect (infix_row op) (values_of x (Var i ∷ Var j ∷ Var l ∷ [])) ≡ effect_by (infix_row op) (value_at (value_at x i ∷ y ∷ z ∷ []))
  unfolding predef_effect values_of
  infix_effect op y z x i j l e f = ap₂ (λ (v w : ValueOf). effect_by (infix_row op) (value_at (value_at x i ∷ v ∷ w ∷ []))) e f

  -- what it does with the values of its operands
  infix_does : (op : Infix) (r s : Sort) (v w : Worth) (x : List ValueOf) (i j l : ℕ) → infix_takes op r s ≡ true → HasSort r v → HasSort s w
      → v ≢ Fault → w ≢ Fault →
      Holds v (value_at x j) → Holds w (value_at x l) →
      predef_effect (infix_row op) (values_of x (Var i ∷ Var j ∷ Var l ∷ [])) ≡ effect_of (infix_worth op v w)
  infix_does op r s (Number y) (Number z) x i j l takes p e f g a b =
      infix_effect op (integer_value y) (integer_value z) x i j l a b
      ∙ infix_numbers op (value_at x i) y z (sym (ap₂ (infix_takes op) p e) ∙ takes)
  infix_does op r s (Number y) (Truth c) x i j l takes p e f g a b = absurd (no_mixed op (sym (ap₂ (infix_takes op) p e) ∙ takes))
  infix_does op r s (Number y) Fault x i j l takes p e f g a b = absurd (g refl)
  infix_does op r s (Truth c) (Number z) x i j l takes p e f g a b = absurd (no_mixed_either op (sym (ap₂ (infix_takes op) p e) ∙ takes))
  infix_does op r s (Truth c) (Truth d) x i j l takes p e f g a b =
      infix_effect op (truth_value c) (truth_value d) x i j l a b
      ∙ infix_truths op (value_at x i) c d (sym (ap₂ (infix_takes op) p e) ∙ takes)
  infix_does op r s (Truth c) Fault x i j l takes p e f g a b = absurd (g refl)
  infix_does op r s Fault w x i j l takes p e f g a b = absurd (f refl)

  -- once the first operand's value stands
  put_second : (op : Infix) (steps : List gypsy.Stmt) (r s : Sort) (v w : Worth) (k : ℕ) (d t : List ValueOf) → length d ≡ n → length t ≡ 2 * depths
      → suc k < depths →
      infix_takes op r s ≡ true → HasSort r v → HasSort s w → v ≢ Fault → Holds v (value_at t (temporary r k)) → Puts steps (suc k) s w d t →
      Puts (steps ++ gypsy.Apply 0 (infix_row op)
      (Var (temporary_at n (infix_sort op) k) ∷ Var (temporary_at n r k) ∷ Var (temporary_at n s (suc k)) ∷ []) ∷ []) k (infix_sort op)
      (infix_worth op v w) d t
  put_second op steps r s v w k d t count many small takes p e f held puts = by_worth w e puts
    where
      call : gypsy.Stmt
      call = gypsy.Apply 0 (infix_row op) (Var (temporary_at n (infix_sort op) k) ∷ Var (temporary_at n r k) ∷ Var (temporary_at n s (suc k)) ∷ [])

      all : (w : Worth) → HasSort s w → w ≢ Fault → (puts : Puts steps (suc k) s w d t)
          → evaluate q sizes (suc m) (in_turn steps) u (d ++ t) ≡ Done (d ++ puts.after) None →
          Puts (steps ++ call ∷ []) k (infix_sort op) (infix_worth op v w) d t
      all w e g puts runs =
          let x : List ValueOf = d ++ puts.after in
          let first : Holds v (value_at x (temporary_at n r k)) =
          subst (Holds v) (sym (read_temporary n d puts.after (temporary r k) count ∙ puts.keeps r k (omega arith))) held in
          let second : Holds w (value_at x (temporary_at n s (suc k))) =
          subst (Holds w) (sym (read_temporary n d puts.after (temporary s (suc k)) count)) puts.holds in
          put_then steps (call ∷ []) k (infix_sort op) (infix_worth op v w) d t puts.after runs puts.many (λ i j lt. puts.keeps i j (omega arith))
          (put_one (infix_row op) (Var (temporary_at n r k) ∷ Var (temporary_at n s (suc k)) ∷ []) k (infix_sort op) (infix_worth op v w) d puts.after
          count (puts.many ∙ many) (omega arith)
          (infix_does op r s v w x (temporary_at n (infix_sort op) k) (temporary_at n r k) (temporary_at n s (suc k)) takes p e f g first second))

      by_worth : (w : Worth) → HasSort s w → Puts steps (suc k) s w d t → Puts (steps ++ call ∷ []) k (infix_sort op) (infix_worth op v w) d t
      by_worth (Number z) e puts = all (Number z) e (λ h. cc) puts puts.runs
      by_worth (Truth b) e puts = all (Truth b) e (λ h. cc) puts puts.runs
      by_worth Fault e puts =
          same_worth (steps ++ call ∷ []) k (infix_sort op) Fault (infix_worth op v Fault) d t (sym (infix_second op v))
          (put_fault steps (call ∷ []) (suc k) k s (infix_sort op) d t (omega arith) puts)

  put_infix : (op : Infix) (first second : List gypsy.Stmt) (r s : Sort) (v w : Worth) (k : ℕ) (d t : List ValueOf) → length d ≡ n
      → length t ≡ 2 * depths → suc k < depths →
      infix_takes op r s ≡ true → HasSort r v → HasSort s w → Puts first k r v d t
      → ((t' : List ValueOf) → length t' ≡ 2 * depths → Puts second (suc k) s w d t') →
      Puts (first ++ (second ++ gypsy.Apply 0 (infix_row op)
      (Var (temporary_at n (infix_sort op) k) ∷ Var (temporary_at n r k) ∷ Var (temporary_at n s (suc k)) ∷ []) ∷ [])) k (infix_sort op)
      (infix_worth op v w) d t
  put_infix op first second r s v w k d t count many small takes p e puts next = by_worth v p puts
    where
      call : gypsy.Stmt
      call = gypsy.Apply 0 (infix_row op) (Var (temporary_at n (infix_sort op) k) ∷ Var (temporary_at n r k) ∷ Var (temporary_at n s (suc k)) ∷ [])

      all : (v : Worth) → HasSort r v → v ≢ Fault → (puts : Puts first k r v d t)
          → evaluate q sizes (suc m) (in_turn first) u (d ++ t) ≡ Done (d ++ puts.after) None →
          Puts (first ++ (second ++ call ∷ [])) k (infix_sort op) (infix_worth op v w) d t
      all v p f puts runs =
          put_then first (second ++ call ∷ []) k (infix_sort op) (infix_worth op v w) d t puts.after runs puts.many puts.keeps
          (put_second op second r s v w k d puts.after count (puts.many ∙ many) small takes p e f puts.holds (next puts.after (puts.many ∙ many)))

      by_worth : (v : Worth) → HasSort r v → Puts first k r v d t → Puts (first ++ (second ++ call ∷ [])) k (infix_sort op) (infix_worth op v w) d t
      by_worth (Number z) p puts = all (Number z) p (λ h. cc) puts puts.runs
      by_worth (Truth b) p puts = all (Truth b) p (λ h. cc) puts puts.runs
      by_worth Fault p puts =
          same_worth (first ++ (second ++ call ∷ [])) k (infix_sort op) Fault (infix_worth op Fault w) d t (sym (infix_fault op w))
          (put_fault first (second ++ call ∷ []) k k r (infix_sort op) d t (omega arith) puts)

  -- an expression whose variables are there, at a depth that leaves enough
  pub values_put : (sorts : List Sort) (e : Exp) (k : ℕ) (d t : List ValueOf) → length d ≡ n → length t ≡ 2 * depths → k + depth e ≤ depths →
      IsWellSorted sorts e → AreHeld sorts d → Puts (value_steps n k e) k (sort_of e) (expression_value e d) d t
  unfolding value_steps expression_value predef_effect effect_by values_of
  values_put sorts (Variable s i) k d t count many small sorted held =
      let there = held_there sorts d i s held sorted in
      put_one row.MgSimpleVariableAssignment (Var i ∷ []) k s (worth_in s (value_at d i)) d t count many (omega arith)
      (copied (d ++ t) (temporary_at n s k) i (read_declared d t i there.below) ∙ held_effect s (value_at d i) there.holds)
    where
      copied : (x : List ValueOf) (j i : ℕ) {v : ValueOf} → value_at x i ≡ v → predef_effect row.MgSimpleVariableAssignment
          (values_of x (Var j ∷ Var i ∷ [])) ≡ Normal v
      copied x j i e = ap Normal e
  values_put sorts (language.Number c) k d t count many small sorted held =
      put_one row.MgSimpleConstantAssignment (Lit (integer_value (pos c)) ∷ []) k Int (Number (pos c)) d t count many (omega arith) refl
  values_put sorts (language.Truth b) k d t count many small sorted held =
      put_one row.MgSimpleConstantAssignment (Lit (truth_value b) ∷ []) k Bool (Truth b) d t count many (omega arith) refl
  values_put sorts (Before op e) k d t count many small sorted held =
      put_prefix op (value_steps n k e) (sort_of e) (expression_value e d) k d t count many (let some = depth_some e in omega arith) sorted.1 (value_sort e d)
      (values_put sorts e k d t count many small sorted.0 held)
  values_put sorts (Between op a b) k d t count many small sorted held =
      put_infix op (value_steps n k a) (value_steps n (suc k) b) (sort_of a) (sort_of b) (expression_value a d) (expression_value b d) k d t count many
      (let some = depth_some b in omega arith) sorted.2 (value_sort a d) (value_sort b d)
      (values_put sorts a k d t count many (omega arith) sorted.0 held)
      (λ t' many'. values_put sorts b (suc k) d t' count many' (omega arith) sorted.1 held)
