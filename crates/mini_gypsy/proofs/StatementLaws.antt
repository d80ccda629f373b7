-- What the steps of a statement do: the same to the declared variables as the statement, in the same condition, at every bound.
use Rattle.std.proofs.Common.{◌≡◌, ℕ, zero, suc, ◌*◌, ◌<◌, List, [], ◌∷◌, ◌++◌, length, true, false, Some, None, refl, sym, ap, subst, ◌∙◌, arith}
use Rattle.std.specs.Prelude.{slice_get, slice_set}
use Rattle.std.specs.Prelude as std
use Rattle.stack_text.specs.Values.{ValueOf}
use Rattle.gypsy_syntax.{specs.Predefined.{predef_effect, effect_by}, specs.Effects.{integer_value, truth_value, value_at, is_true_value}}
use Rattle.gypsy_syntax.specs.Programs.{Program, Leave, Routine, Space, Declared}
use Rattle.gypsy_syntax.specs.Programs as gypsy
use Rattle.gypsy_space.specs.Needs.{StackSizes}
use Rattle.gypsy_semantics.{specs.Calls.{CurrentCondition, values_of, target_of}, specs.Meaning.{MeaningOutcome, Done, Unfinished, evaluate, then_do}}
use Rattle.gypsy_semantics.specs.Meaning.{either_way, round_end}
use Rattle.mini_syntax.{specs.declared.sort.Sort.Sort, specs.declared.sort.Sort.TheVariants.Bool, specs.Language.{Exp, Stmt, Nothing, Then, Assign, While, If}}
use Rattle.mini_syntax.{specs.Sorted.{IsFine, AreFine, depths}, specs.Operands.sort_of}
use Rattle.mini_gypsy.{specs.Meant.{Worth, Number, Truth, Fault, worth_in, expression_value, assigned, by_test, program_run}, specs.Steps.{in_turn, temporary}}
use Rattle.mini_gypsy.{specs.Steps.{temporary_at, set_variable, value_steps, block_of, choice_of, statement_steps}, proofs.StateLaws.read_temporary}
use Rattle.mini_gypsy.{proofs.StateLaws.{write_declared, turn_append, turn_one}, proofs.HeldLaws.{HasSort, Holds, AreHeld, held_length, held_there, held_set}}
use Rattle.mini_gypsy.{proofs.HeldLaws.{value_sort, number_again, truth_again}, proofs.ValueLaws.{Puts, ended, values_put}}

-- normal or routineerror
abbrev pub IsEnd : CurrentCondition → Type 0
IsEnd None = Unit {0}
IsEnd (Some Leave) = ⊥
IsEnd (Some Routine) = Unit {0}
IsEnd (Some Space) = ⊥
IsEnd (Some (Declared i)) = ⊥

-- done, with some temporaries after the declared variables
pub record EndsSo (sorts : List Sort) (d : List ValueOf) (c : CurrentCondition) (o : MeaningOutcome) : Type 0 where
  pub rest : List ValueOf
  pub many : length rest ≡ 2 * depths
  pub held : AreHeld sorts d
  pub ending : IsEnd c
  pub is : o ≡ Done (d ++ rest) c

-- the outcome over all variables is that over the declared ones
abbrev pub Follows : List Sort → MeaningOutcome → MeaningOutcome → Type 0
Follows sorts (Done d c) o = EndsSo sorts d c o
Follows sorts Unfinished o = o ≡ Unfinished

-- from variables of these sorts, and so many temporaries
abbrev pub FollowsFrom : List Sort → (List ValueOf → MeaningOutcome) → (List ValueOf → MeaningOutcome) → Type 0
FollowsFrom sorts f g = (d t : List ValueOf) → AreHeld sorts d → length t ≡ 2 * depths → Follows sorts (f d) (g (d ++ t))

pub follows_then : (sorts : List Sort) (r o : MeaningOutcome) (f g : List ValueOf → MeaningOutcome) → Follows sorts r o → FollowsFrom sorts f g
    → Follows sorts (then_do r f) (then_do o g)
follows_then sorts (Done d None) o f g first next =
    subst (Follows sorts (f d)) (sym (ap (λ (p : MeaningOutcome). then_do p g) first.is)) (next d first.rest first.held first.many)
follows_then sorts (Done d (Some c)) o f g first next = record {
  rest = first.rest;
  many = first.many;
  held = first.held;
  ending = first.ending;
  is = ap (λ (p : MeaningOutcome). then_do p g) first.is;
}
follows_then sorts Unfinished o f g first next = ap (λ (p : MeaningOutcome). then_do p g) first

-- by an equation of outcomes
follows_by : (sorts : List Sort) (r o p : MeaningOutcome) → o ≡ p → Follows sorts r p → Follows sorts r o
follows_by sorts r o p e follows = subst (Follows sorts r) (sym e) follows

-- a round of a loop whose round is over: the next one
follows_round : (sorts : List Sort) (r o : MeaningOutcome) (f g : List ValueOf → MeaningOutcome) → Follows sorts r o → FollowsFrom sorts f g
    → Follows sorts (then_do r f) (round_end o g)
follows_round sorts (Done d None) o f g first next =
    subst (Follows sorts (f d)) (sym (ap (λ (p : MeaningOutcome). round_end p g) first.is)) (next d first.rest first.held first.many)
follows_round sorts (Done d (Some Leave)) o f g first next = absurd first.ending
follows_round sorts (Done d (Some Routine)) o f g first next = record {
  rest = first.rest;
  many = first.many;
  held = first.held;
  ending = first.ending;
  is = ap (λ (p : MeaningOutcome). round_end p g) first.is;
}
follows_round sorts (Done d (Some Space)) o f g first next = absurd first.ending
follows_round sorts (Done d (Some (Declared i))) o f g first next = absurd first.ending
follows_round sorts Unfinished o f g first next = ap (λ (p : MeaningOutcome). round_end p g) first

module _ (q : Program) (sizes u : StackSizes) (sorts : List Sort) where
  -- after the steps of an expression, one more statement
  value_then : (m : ℕ) (e : Exp) (w : Worth) (d t : List ValueOf) (last : gypsy.Stmt)
      (puts : Puts q sizes u m (length sorts) (value_steps (length sorts) 0 e) 0 (sort_of e) w d t) →
      evaluate q sizes (suc m) (in_turn (value_steps (length sorts) 0 e ++ last ∷ [])) u (d ++ t)
      ≡ then_do (ended w (d ++ puts.after)) (evaluate q sizes (suc m) (in_turn (last ∷ [])) u)
  value_then m e w d t last puts =
      turn_append q sizes m u (value_steps (length sorts) 0 e) (last ∷ []) (d ++ t)
      ∙ ap (λ (o : MeaningOutcome). then_do o (evaluate q sizes (suc m) (in_turn (last ∷ [])) u)) puts.runs

  -- a variable is set to another's value
  variable_set : (m i j : ℕ) (x : List ValueOf) (v : ValueOf) → value_at x j ≡ v
      → evaluate q sizes (suc m) (in_turn (set_variable i j ∷ [])) u x ≡ Done (slice_set x i v) None
  unfolding predef_effect effect_by values_of target_of
  variable_set m i j x v e = turn_one q sizes m u (set_variable i j) x ∙ ap (λ (w : ValueOf). Done (slice_set x i w) None) e

  -- an assignment
  assign_follows : (m i : ℕ) (e : Exp) (d t : List ValueOf) → AreHeld sorts d → length t ≡ 2 * depths → slice_get sorts i ≡ Some (sort_of e)
      → IsFine sorts (sort_of e) e →
      Follows sorts (assigned i (expression_value e d) d)
      (evaluate q sizes (suc m) (in_turn (value_steps (length sorts) 0 e ++ set_variable i (temporary_at (length sorts) (sort_of e) 0) ∷ [])) u (d ++ t))
  assign_follows m i e d t held many there fine = by_worth (expression_value e d) (value_sort e d)
      (values_put q sizes u m n sorts e 0 d t count many (omega (arith, fine.shallow)) fine.sorted held)
    where
      n : ℕ
      n = length sorts

      s : Sort
      s = sort_of e

      steps : List gypsy.Stmt
      steps = value_steps n 0 e

      last : gypsy.Stmt
      last = set_variable i (temporary_at n s 0)

      count : length d ≡ n
      count = held_length sorts d held

      is_there : i < length d
      is_there = (held_there sorts d i s held there).below

      set_to : (y : List ValueOf) (v : ValueOf) → value_at y (temporary s 0) ≡ v
          → evaluate q sizes (suc m) (in_turn (last ∷ [])) u (d ++ y) ≡ Done (slice_set d i v ++ y) None
      set_to y v e =
          variable_set m i (temporary_at n s 0) (d ++ y) v (read_temporary n d y (temporary s 0) count ∙ e)
          ∙ ap (λ (x : List ValueOf). Done x None) (write_declared d y i v is_there)

      by_worth : (w : Worth) → HasSort s w → Puts q sizes u m n steps 0 s w d t → Follows sorts (assigned i w d)
          (evaluate q sizes (suc m) (in_turn (steps ++ last ∷ [])) u (d ++ t))
      by_worth (Number z) same puts = record {
        rest = puts.after;
        many = puts.many ∙ many;
        held = held_set sorts d i s (integer_value z) held there
            (subst (λ (r : Sort). Holds (worth_in r (integer_value z)) (integer_value z)) (sym same) (number_again z));
        ending = tt;
        is = value_then m e (Number z) d t last puts ∙ set_to puts.after (integer_value z) puts.holds;
      }
      by_worth (Truth b) same puts = record {
        rest = puts.after;
        many = puts.many ∙ many;
        held = held_set sorts d i s (truth_value b) held there
            (subst (λ (r : Sort). Holds (worth_in r (truth_value b)) (truth_value b)) (sym same) (truth_again b));
        ending = tt;
        is = value_then m e (Truth b) d t last puts ∙ set_to puts.after (truth_value b) puts.holds;
      }
      by_worth Fault same puts = record { rest = puts.after; many = puts.many ∙ many; held = held; ending = tt; is = value_then m e Fault d t last puts }

  -- a choice by a test
  record Chooses (m : ℕ) (e : Exp) (a b : gypsy.Stmt) (w : Worth) (d t : List ValueOf) : Type 0 where
    after : List ValueOf
    many : length after ≡ 2 * depths
    runs : evaluate q sizes (suc m) (in_turn (value_steps (length sorts) 0 e ++ choice_of (length sorts) a b ∷ [])) u (d ++ t)
        ≡ by_test w (d ++ after) (evaluate q sizes (suc m) a u (d ++ after)) (evaluate q sizes (suc m) b u (d ++ after))

  truth_is : (b : std.Bool) → is_true_value (truth_value b) ≡ b
  truth_is true = refl
  truth_is false = refl

  choose : (m : ℕ) (e : Exp) (a b : gypsy.Stmt) (d t : List ValueOf) → AreHeld sorts d → length t ≡ 2 * depths → IsFine sorts Bool e
      → Chooses m e a b (expression_value e d) d t
  choose m e a b d t held many fine = by_worth (expression_value e d)
      (subst (λ (r : Sort). HasSort r (expression_value e d)) fine.same (value_sort e d))
      (values_put q sizes u m n sorts e 0 d t count many (omega (arith, fine.shallow)) fine.sorted held)
    where
      n : ℕ
      n = length sorts

      steps : List gypsy.Stmt
      steps = value_steps n 0 e

      last : gypsy.Stmt
      last = choice_of n a b

      count : length d ≡ n
      count = held_length sorts d held

      by_worth : (w : Worth) → HasSort Bool w → Puts q sizes u m n steps 0 (sort_of e) w d t → Chooses m e a b w d t
      by_worth (Number z) same puts = cc
      by_worth (Truth c) same puts =
          let x : List ValueOf = d ++ puts.after in
          let read : value_at x (temporary_at n Bool 0) ≡ truth_value c =
          read_temporary n d puts.after (temporary Bool 0) count ∙ subst (λ (r : Sort). value_at puts.after (temporary r 0) ≡ truth_value c) fine.same
          puts.holds in
          record {
            after = puts.after;
            many = puts.many ∙ many;
            runs =
                value_then m e (Truth c) d t last puts
                ∙ turn_one q sizes m u last x
                ∙ ap (λ (p : std.Bool). either_way p (evaluate q sizes (suc m) a u x) (evaluate q sizes (suc m) b u x)) (ap is_true_value read ∙ truth_is c);
          }
      by_worth Fault same puts = record { after = puts.after; many = puts.many ∙ many; runs = value_then m e Fault d t last puts }

  -- at every bound, the steps follow the statement
  pub record StepsFollow (s : Stmt) (ss : List gypsy.Stmt) : Type 0 where
    pub at : (m : ℕ) (d t : List ValueOf) → AreHeld sorts d → length t ≡ 2 * depths
        → Follows sorts (program_run s d m) (evaluate q sizes m (in_turn ss) u (d ++ t))

  -- a loop of a test, a block, and `leave`
  loop_follows : (e : Exp) (s : Stmt) (ss : List gypsy.Stmt) → IsFine sorts Bool e → StepsFollow s ss → (m : ℕ) (d t : List ValueOf) → AreHeld sorts d
      → length t ≡ 2 * depths →
      Follows sorts (program_run (While e s) d m)
      (evaluate q sizes m (gypsy.Loop 0 (in_turn
      (value_steps (length sorts) 0 e ++ choice_of (length sorts) (block_of ss) (gypsy.Signal 0 Leave) ∷ []))) u (d ++ t))
  unfolding program_run
  loop_follows e s ss fine body zero d t held many = refl
  loop_follows e s ss fine body (suc m) d t held many =
      let chosen = choose m e (block_of ss) (gypsy.Signal 0 Leave) d t held many fine in
      let x : List ValueOf = d ++ chosen.after in
      follows_by sorts (program_run (While e s) d (suc m))
      (round_end (evaluate q sizes (suc m) body_of u (d ++ t)) again)
      (round_end (by_test (expression_value e d) x (evaluate q sizes (suc m) (in_turn ss) u x) (Done x (Some Leave))) again)
      (ap (λ (o : MeaningOutcome). round_end o again) chosen.runs)
      (by_worth (expression_value e d) chosen.after chosen.many (λ d' t' held' many'. loop_follows e s ss fine body m d' t' held' many'))
    where
      body_of : gypsy.Stmt
      body_of = in_turn (value_steps (length sorts) 0 e ++ choice_of (length sorts) (block_of ss) (gypsy.Signal 0 Leave) ∷ [])

      again : List ValueOf → MeaningOutcome
      again = evaluate q sizes m (gypsy.Loop 0 body_of) u

      by_worth : (w : Worth) (y : List ValueOf) → length y ≡ 2 * depths →
          ((d' t' : List ValueOf) → AreHeld sorts d' → length t' ≡ 2 * depths → Follows sorts (program_run (While e s) d' m) (again (d' ++ t'))) →
          Follows sorts (by_test w d (then_do (program_run s d (suc m)) (λ z. program_run (While e s) z m)) (Done d None))
          (round_end (by_test w (d ++ y) (evaluate q sizes (suc m) (in_turn ss) u (d ++ y)) (Done (d ++ y) (Some Leave))) again)
      by_worth (Number z) y many' later = record { rest = y; many = many'; held = held; ending = tt; is = refl }
      by_worth (Truth true) y many' later =
          follows_round sorts (program_run s d (suc m)) (evaluate q sizes (suc m) (in_turn ss) u (d ++ y)) (λ z. program_run (While e s) z m) again
          (body.at (suc m) d y held many') later
      by_worth (Truth false) y many' later = record { rest = y; many = many'; held = held; ending = tt; is = refl }
      by_worth Fault y many' later = record { rest = y; many = many'; held = held; ending = tt; is = refl }

  -- one of two
  if_follows : (e : Exp) (s s' : Stmt) (ss ss' : List gypsy.Stmt) → IsFine sorts Bool e → StepsFollow s ss → StepsFollow s' ss'
      → (m : ℕ) (d t : List ValueOf) → AreHeld sorts d → length t ≡ 2 * depths →
      Follows sorts (program_run (If e s s') d (suc m))
      (evaluate q sizes (suc m) (in_turn (value_steps (length sorts) 0 e ++ choice_of (length sorts) (block_of ss) (block_of ss') ∷ [])) u (d ++ t))
  unfolding program_run
  if_follows e s s' ss ss' fine one other m d t held many =
      let chosen = choose m e (block_of ss) (block_of ss') d t held many fine in
      let x : List ValueOf = d ++ chosen.after in
      follows_by sorts (program_run (If e s s') d (suc m))
      (evaluate q sizes (suc m) (in_turn (value_steps (length sorts) 0 e ++ choice_of (length sorts) (block_of ss) (block_of ss') ∷ [])) u (d ++ t))
      (by_test (expression_value e d) x (evaluate q sizes (suc m) (in_turn ss) u x) (evaluate q sizes (suc m) (in_turn ss') u x))
      chosen.runs
      (by_worth (expression_value e d) chosen.after chosen.many)
    where
      by_worth : (w : Worth) (y : List ValueOf) → length y ≡ 2 * depths →
          Follows sorts (by_test w d (program_run s d (suc m)) (program_run s' d (suc m)))
          (by_test w (d ++ y) (evaluate q sizes (suc m) (in_turn ss) u (d ++ y)) (evaluate q sizes (suc m) (in_turn ss') u (d ++ y)))
      by_worth (Number z) y many' = record { rest = y; many = many'; held = held; ending = tt; is = refl }
      by_worth (Truth true) y many' = one.at (suc m) d y held many'
      by_worth (Truth false) y many' = other.at (suc m) d y held many'
      by_worth Fault y many' = record { rest = y; many = many'; held = held; ending = tt; is = refl }

  -- every statement
  pub statements_follow : (s : Stmt) → AreFine sorts s → StepsFollow s (statement_steps (length sorts) s)
  unfolding program_run statement_steps
  statements_follow Nothing fine = record { at = nothing }
    where
      nothing : (m : ℕ) (d t : List ValueOf) → AreHeld sorts d → length t ≡ 2 * depths
          → Follows sorts (program_run Nothing d m) (evaluate q sizes m (in_turn []) u (d ++ t))
      nothing zero d t held many = refl
      nothing (suc m) d t held many = record { rest = t; many = many; held = held; ending = tt; is = refl }
  statements_follow (Then s s') fine = record { at = in_order (statements_follow s fine.0) (statements_follow s' fine.1) }
    where
      in_order : StepsFollow s (statement_steps (length sorts) s) → StepsFollow s' (statement_steps (length sorts) s') →
          (m : ℕ) (d t : List ValueOf) → AreHeld sorts d → length t ≡ 2 * depths →
          Follows sorts (program_run (Then s s') d m)
          (evaluate q sizes m (in_turn (statement_steps (length sorts) s ++ statement_steps (length sorts) s')) u (d ++ t))
      in_order one other zero d t held many = refl
      in_order one other (suc m) d t held many =
          let ss = statement_steps (length sorts) s in
          let ss' = statement_steps (length sorts) s' in
          let rest : List ValueOf → MeaningOutcome = evaluate q sizes (suc m) (in_turn ss') u in
          follows_by sorts (program_run (Then s s') d (suc m)) (evaluate q sizes (suc m) (in_turn (ss ++ ss')) u (d ++ t))
          (then_do (evaluate q sizes (suc m) (in_turn ss) u (d ++ t)) rest)
          (turn_append q sizes m u ss ss' (d ++ t))
          (follows_then sorts (program_run s d (suc m)) (evaluate q sizes (suc m) (in_turn ss) u (d ++ t)) (λ y. program_run s' y (suc m)) rest
          (one.at (suc m) d t held many) (λ d' t' held' many'. other.at (suc m) d' t' held' many'))
  statements_follow (Assign i e) fine = record { at = assign }
    where
      assign : (m : ℕ) (d t : List ValueOf) → AreHeld sorts d → length t ≡ 2 * depths →
          Follows sorts (program_run (Assign i e) d m)
          (evaluate q sizes m (in_turn (value_steps (length sorts) 0 e ++ set_variable i (temporary_at (length sorts) (sort_of e) 0) ∷ [])) u
          (d ++ t))
      assign zero d t held many = refl
      assign (suc m) d t held many = assign_follows m i e d t held many fine.0 fine.1
  statements_follow (While e s) fine = record { at = loop (statements_follow s fine.1) }
    where
      loop : StepsFollow s (statement_steps (length sorts) s) → (m : ℕ) (d t : List ValueOf) → AreHeld sorts d → length t ≡ 2 * depths →
          Follows sorts (program_run (While e s) d m) (evaluate q sizes m (in_turn (statement_steps (length sorts) (While e s))) u (d ++ t))
      loop body zero d t held many = refl
      loop body (suc m) d t held many =
          let whole = gypsy.Loop 0 (in_turn (value_steps (length sorts) 0 e ++ choice_of (length sorts) (block_of (statement_steps (length sorts) s))
          (gypsy.Signal 0 Leave) ∷ [])) in
          follows_by sorts (program_run (While e s) d (suc m)) (evaluate q sizes (suc m) (in_turn (whole ∷ [])) u (d ++ t))
          (evaluate q sizes (suc m) whole u (d ++ t))
          (turn_one q sizes m u whole (d ++ t))
          (loop_follows e s (statement_steps (length sorts) s) fine.0 body (suc m) d t held many)
  statements_follow (If e s s') fine = record { at = choice (statements_follow s fine.1) (statements_follow s' fine.2) }
    where
      choice : StepsFollow s (statement_steps (length sorts) s) → StepsFollow s' (statement_steps (length sorts) s') → (m : ℕ) (d t : List ValueOf)
          → AreHeld sorts d → length t ≡ 2 * depths →
          Follows sorts (program_run (If e s s') d m) (evaluate q sizes m (in_turn (statement_steps (length sorts) (If e s s'))) u (d ++ t))
      choice one other zero d t held many = refl
      choice one other (suc m) d t held many =
          if_follows e s s' (statement_steps (length sorts) s) (statement_steps (length sorts) s') fine.0 one other m d t held many
