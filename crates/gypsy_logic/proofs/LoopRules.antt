-- Loops that count up to a number: `(loop (seq (mg-simple-constant-eq B I m) (if B (signal leave) (no-op)) S ..))`. No measure is given:
-- the state at a round is that of the number i that the variable I has.
use Rattle.std.proofs.Common.{◌≡◌, ℕ, zero, suc, ◌+◌, ◌<◌, ◌≤◌, ◌-◌, List, [], ◌∷◌, Bool, true, false, Some, None, sym, ap, ◌∙◌, subst, arith}
use Rattle.std.{specs.Prelude.pos, proofs.lemmas.Int.ints}
use Rattle.stack_text.specs.Values.{ValueOf}
use Rattle.gypsy_syntax.specs.declared.predef.Predef.TheVariants as row
use Rattle.gypsy_syntax.{specs.Programs.{Leave, Routine, Space, Declared, Var, Lit, Program, Stmt, NoOp, Signal, Seq, Loop, If, Apply}, specs.Effects.value_at}
use Rattle.gypsy_syntax.specs.Effects.{is_true_value, integer_value, truth_value, are_same}
use Rattle.gypsy_space.specs.Needs.{StackSizes}
use Rattle.gypsy_semantics.specs.Calls.{CurrentCondition}
use Rattle.gypsy_logic.{specs.Ends.{Exit, Ends, Round, Again, Stands}, specs.Counts.{CountedExit, EndsAfter, RoundAfter, AgainAfter, StandsAfter}}
use Rattle.gypsy_logic.{proofs.Rules.{◌▸◌, no_op_rule, signal_rule, seq_rule, if_true, if_false, loop_over, weaker}, proofs.CountedRules.no_op_after}
use Rattle.gypsy_logic.proofs.CountedRules.{signal_after, seq_after, if_true_after, if_false_after, loop_over_after, predef_after, weaker_after}
use Rattle.gypsy_logic.{proofs.PredefinedRules.{number_at, with_value, equal_constant_rule}, proofs.NumberFacts.{truth_is, same_true, same_false}}

module _ (m : ℕ) (State : ℕ → Type 0) (vars : (i : ℕ) → State i → List ValueOf) where
  -- so many rounds are left
  record Left (n : ℕ) : Type 0 where
    i : ℕ
    state : State i
    left : i + n ≡ m

  abbrev at_left : (n : ℕ) → Left n → List ValueOf
  at_left n s = vars s.i s.state

  -- a state of the next number
  abbrev pub AtNext : ℕ → List ValueOf → Type 0
  AtNext i y = (w : State (suc i)) × (y ≡ vars (suc i) w)

  -- the same after so many instructions
  abbrev pub AtNextAfter : (ℕ → ℕ) → ℕ → List ValueOf → ℕ → Type 0
  AtNextAfter count i y k = (w : State (suc i)) × (y ≡ vars (suc i) w) × (k ≡ count (suc i))

-- a round: whether variable a is m by now, of which variable d has the answer
abbrev pub counting_test : ℕ → ℕ → ℕ → ℕ → Stmt
counting_test place d a m = Apply place row.MgSimpleConstantEq (Var d ∷ Var a ∷ Lit (integer_value (pos m)) ∷ [])

abbrev pub counting_rest : ℕ → ℕ → ℕ → ℕ → Stmt → Stmt
counting_rest place place1 place2 d rest = Seq (If place d (Signal place1 Leave) (NoOp place2)) rest

module _ (q : Program) (sizes u : StackSizes) (place place1 place2 place3 place4 d a m : ℕ) (rest : Stmt) where
  abbrev Test : Stmt
  Test = counting_test place1 d a m

  abbrev Tested : Stmt
  Tested = counting_rest place2 place3 place4 d rest

  module _ (State : ℕ → Type 0) (vars : (i : ℕ) → State i → List ValueOf) (counts : (i : ℕ) (v : State i) → number_at (vars i v) a ≡ pos i)
      (there : (i : ℕ) (v : State i) (w : ValueOf) → value_at (with_value (vars i v) d w) d ≡ w) where
    tested : (i : ℕ) (v : State i) (b : Bool) → is_true_value (value_at (with_value (vars i v) d (truth_value b)) d) ≡ b
    tested i v b = ap is_true_value (there i v (truth_value b)) ∙ truth_is b

    is_over : (v : State m) → are_same (value_at (vars m v) a) (integer_value (pos m)) ≡ true
    is_over v = same_true (number_at (vars m v) a) (pos m) (counts m v)

    goes_on : (i : ℕ) (v : State i) → i < m → are_same (value_at (vars i v) a) (integer_value (pos m)) ≡ false
    goes_on i v less = same_false (number_at (vars i v) a) (pos m) (λ e. let f : pos i ≡ pos m = sym (counts i v) ∙ e in absurd (omega (arith, ints)))

    module _ (Q : Exit) (each : (i : ℕ) (v : State i) → i < m → Ends q sizes u rest (with_value (vars i v) d (truth_value false))
        (Round (AtNext m State vars i) Q)) (ends : (v : State m) → Q (with_value (vars m v) d (truth_value true)) None) where
      abbrev RoundEnds : ℕ → Exit
      RoundEnds n = Round (Again (Stands (Left m State vars) (at_left m State vars)) n) Q

      on : (i n : ℕ) → i + suc n ≡ m → (y : List ValueOf) (c : CurrentCondition) → Round (AtNext m State vars i) Q y c → RoundEnds (suc n) y c
      on i n e y None h = (n, omega arith, (record { i = suc i; state = h.0; left = omega arith }, h.1))
      on i n e y (Some Leave) h = h
      on i n e y (Some Routine) h = h
      on i n e y (Some Space) h = h
      on i n e y (Some (Declared j)) h = h

      last : (v : State m) → Ends q sizes u (Seq Test Tested) (vars m v) (RoundEnds 0)
      last v =
          seq_rule ▸ equal_constant_rule ▸
          subst (λ (b : Bool). Ends q sizes u Tested (with_value (vars m v) d (truth_value b)) (RoundEnds 0)) (sym (is_over v))
          (seq_rule ▸ if_true (tested m v true) ▸ signal_rule (ends v))

      round : (n : ℕ) (s : Left m State vars n) → Ends q sizes u (Seq Test Tested) (at_left m State vars n s) (RoundEnds n)
      round zero s =
          let e : m ≡ s.i = omega (arith, s.left) in
          subst (λ (i : ℕ). (v : State i) → Ends q sizes u (Seq Test Tested) (vars i v) (RoundEnds 0)) e last s.state
      round (suc n) s =
          let x = vars s.i s.state in
          let less : s.i < m = omega (arith, s.left) in
          seq_rule ▸ equal_constant_rule ▸
          subst (λ (b : Bool). Ends q sizes u Tested (with_value x d (truth_value b)) (RoundEnds (suc n))) (sym (goes_on s.i s.state less))
          (seq_rule ▸ if_false (tested s.i s.state false) ▸ no_op_rule ▸ weaker (each s.i s.state less) (on s.i n s.left))

    module _ (count : ℕ → ℕ) (Q : CountedExit)
        (each : (i : ℕ) (v : State i) → i < m → EndsAfter q sizes u rest (with_value (vars i v) d (truth_value false)) (count i + 49)
        (RoundAfter (AtNextAfter m State vars count i) Q))
        (ends : (v : State m) → Q (with_value (vars m v) d (truth_value true)) None (count m + 53)) where
      abbrev count_left : (n : ℕ) → Left m State vars n → ℕ
      count_left n s = count s.i

      abbrev RoundEndsAfter : ℕ → CountedExit
      RoundEndsAfter n = RoundAfter (AgainAfter (StandsAfter (Left m State vars) (at_left m State vars) count_left) n) Q

      on_after : (i n : ℕ) → i + suc n ≡ m → (y : List ValueOf) (c : CurrentCondition) (k : ℕ) → RoundAfter (AtNextAfter m State vars count i) Q y c k
          → RoundEndsAfter (suc n) y c k
      on_after i n e y None k h = (n, omega arith, (record { i = suc i; state = h.0; left = omega arith }, h.1, h.2))
      on_after i n e y (Some Leave) k h = h
      on_after i n e y (Some Routine) k h = h
      on_after i n e y (Some Space) k h = h
      on_after i n e y (Some (Declared j)) k h = h

      last_after : (v : State m) → EndsAfter q sizes u (Seq Test Tested) (vars m v) (count m + 1) (RoundEndsAfter 0)
      last_after v =
          seq_after ▸ predef_after ▸ equal_constant_rule ▸
          subst (λ (b : Bool). EndsAfter q sizes u Tested (with_value (vars m v) d (truth_value b)) (count m + 1 + 37) (RoundEndsAfter 0)) (sym (is_over v))
          (seq_after ▸ if_true_after (tested m v true) ▸ signal_after ▸ subst (Q (with_value (vars m v) d (truth_value true)) None) (omega arith) (ends v))

      round_after : (n : ℕ) (s : Left m State vars n) → EndsAfter q sizes u (Seq Test Tested) (at_left m State vars n s) (count s.i + 1) (RoundEndsAfter n)
      round_after zero s =
          let e : m ≡ s.i = omega (arith, s.left) in
          subst (λ (i : ℕ). (v : State i) → EndsAfter q sizes u (Seq Test Tested) (vars i v) (count i + 1) (RoundEndsAfter 0)) e last_after s.state
      round_after (suc n) s =
          let x = vars s.i s.state in
          let less : s.i < m = omega (arith, s.left) in
          seq_after ▸ predef_after ▸ equal_constant_rule ▸
          subst (λ (b : Bool). EndsAfter q sizes u Tested (with_value x d (truth_value b)) (count s.i + 1 + 37) (RoundEndsAfter (suc n)))
          (sym (goes_on s.i s.state less))
          (seq_after ▸ if_false_after (tested s.i s.state false) ▸ no_op_after ▸
          subst (λ (k : ℕ). EndsAfter q sizes u rest (with_value x d (truth_value false)) k (RoundEndsAfter (suc n))) (omega arith)
          (weaker_after (each s.i s.state less) (on_after s.i n s.left)))

-- From the state at i, S leads to one at the next number, below m; and the loop is left at m.
pub counting_rule : {q : Program} {sizes u : StackSizes} {place place1 place2 place3 place4 d a m : ℕ} {rest : Stmt} {Q : Exit} (State : ℕ → Type 0)
    (vars : (i : ℕ) → State i → List ValueOf) → ((i : ℕ) (v : State i) → number_at (vars i v) a ≡ pos i)
    → ((i : ℕ) (v : State i) (w : ValueOf) → value_at (with_value (vars i v) d w) d ≡ w) →
    ((i : ℕ) (v : State i) → i < m → Ends q sizes u rest (with_value (vars i v) d (truth_value false)) (Round (AtNext m State vars i) Q))
    → ((v : State m) → Q (with_value (vars m v) d (truth_value true)) None) → (i : ℕ) (v : State i) → i ≤ m →
    Ends q sizes u (Loop place (Seq (counting_test place1 d a m) (counting_rest place2 place3 place4 d rest))) (vars i v) Q
counting_rule {q = q} {sizes = sizes} {u = u} {place = place} {place1 = place1} {place2 = place2} {place3 = place3} {place4 = place4} {d = d} {a = a}
    {m = m} {rest = rest} {Q = Q} State vars counts there each ends i v most =
    loop_over (Left m State vars) (at_left m State vars) (round q sizes u place place1 place2 place3 place4 d a m rest State vars counts there Q each ends)
    (m - i) (record { i = i; state = v; left = omega arith })

-- With counts: at the number i so many instructions were taken before the round, of which its test takes 49, and that of the last one 53.
pub counting_after : {q : Program} {sizes u : StackSizes} {place place1 place2 place3 place4 d a m : ℕ} {rest : Stmt} {Q : CountedExit}
    (State : ℕ → Type 0) (vars : (i : ℕ) → State i → List ValueOf) → ((i : ℕ) (v : State i) → number_at (vars i v) a ≡ pos i)
    → ((i : ℕ) (v : State i) (w : ValueOf) → value_at (with_value (vars i v) d w) d ≡ w) → (count : ℕ → ℕ) →
    ((i : ℕ) (v : State i) → i < m → EndsAfter q sizes u rest (with_value (vars i v) d (truth_value false)) (count i + 49)
    (RoundAfter (AtNextAfter m State vars count i) Q)) → ((v : State m) → Q (with_value (vars m v) d (truth_value true)) None (count m + 53))
    → (i : ℕ) (v : State i) → i ≤ m →
    EndsAfter q sizes u (Loop place (Seq (counting_test place1 d a m) (counting_rest place2 place3 place4 d rest))) (vars i v) (count i) Q
counting_after {q = q} {sizes = sizes} {u = u} {place = place} {place1 = place1} {place2 = place2} {place3 = place3} {place4 = place4} {d = d} {a = a}
    {m = m} {rest = rest} {Q = Q} State vars counts there count each ends i v most =
    loop_over_after (Left m State vars) (at_left m State vars) (λ n s. count s.i)
    (round_after q sizes u place place1 place2 place3 place4 d a m rest State vars counts there count Q each ends)
    (m - i) (record { i = i; state = v; left = omega arith })
