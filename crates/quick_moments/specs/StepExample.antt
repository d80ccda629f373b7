-- The moments of two examples, computed.
use Rattle.std.specs.Prelude.{◌≡◌, ℕ, zero, suc, ℤ, pos, List, [], ◌∷◌, None}
use Rattle.stack_text.specs.declared.shape.Kind.TheVariants.{Integer}
use Rattle.gypsy_syntax.specs.declared.predef.Predef.TheVariants as row
use Rattle.gypsy_syntax.specs.{Programs.{Leave, Routine, Var, Proc, Program, simple, Signal, Loop, Begin, Apply}, Effects.{integer_value}}
use Rattle.gypsy_semantics.specs.{Calls.{CurrentCondition}, Machine.{State, At, Move, Next, Ended, start}, Views.Moments.{moment}}
use Rattle.quick_gypsy.specs.{Layout.{Layout}, Quick.{Targets}}
use Rattle.quick_build.specs.{QuickImage.{layout_in, exit_place, final_of}, QuickExamples.{upto, upto_main, hundred}}
use Rattle.quick_moments.specs.{QuickMarks.{quick_mark}, QuickSteps.{quick_cost_to, under_way_at}}

-- what these numbers have, from the first on
abbrev pub listed_from : ℕ → ℕ → (ℕ → ℕ) → List ℕ
listed_from first zero f = []
listed_from first (suc n) f = f first ∷ listed_from (suc first) n f

abbrev pub mark_in : Layout → Targets → ℕ → CurrentCondition → Move → ℕ
mark_in L T end under_way (Next (At p x w fs t)) = quick_mark L T end under_way w
mark_in L T end under_way (Ended x c t) = 0

-- the address at which the machine stands after so many steps, and how many instructions they take
abbrev pub mark_in_steps : Layout → ℕ → Program → State → ℕ → ℕ
mark_in_steps L end q g j =
    mark_in L (exit_place 0 0) end (under_way_at q hundred j None g) (moment q hundred j g)

abbrev pub cost_in_steps : Layout → Program → State → ℕ → ℕ
cost_in_steps L q g j = quick_cost_to q hundred L j None g

-- of `examples/counting/upto.gypsy`, four variables have registers
abbrev pub upto_layout : Layout
upto_layout = layout_in (0 ∷ 1 ∷ 2 ∷ 3 ∷ []) upto_main 38

abbrev pub upto_from : ℕ → State
upto_from n = start upto (integer_value (pos n) ∷ integer_value (pos 0) ∷ [])

abbrev pub upto_end : ℕ
upto_end = final_of (0 ∷ 1 ∷ 2 ∷ 3 ∷ []) upto_main 0 38

-- formal x, which is doubled until it overflows; the handler only signals leave
abbrev pub doubling_main : Proc
doubling_main = record {
  place = 0;
  formals = simple Integer ∷ [];
  locals = [];
  conds = 0;
  local_conds = 0;
  body =
      Loop
      0
      (Begin 0 (Apply 0 row.MgIntegerAdd (Var 0 ∷ Var 0 ∷ Var 0 ∷ [])) (Routine ∷ []) (Signal 0 Leave));
}

abbrev pub doubling : Program
doubling = record { main = 0; procs = doubling_main ∷ [] }

abbrev pub doubling_layout : Layout
doubling_layout = layout_in (0 ∷ []) doubling_main 22

abbrev pub doubling_from : ℤ → State
doubling_from z = start doubling (integer_value z ∷ [])

abbrev pub doubling_end : ℕ
doubling_end = final_of (0 ∷ []) doubling_main 0 22

-- From n = 1 `upto` takes 13 steps and 19 instructions, and from n = 5 it takes 63. From 2^29 `doubling` takes 8 steps and 8 instructions:
-- once the second sum has overflowed, the machine is behind the loop at once.
pub record StepsAreShown : Type 0 where
  pub upto_marks : listed_from 0 13 (mark_in_steps upto_layout upto_end upto (upto_from 1)) ≡
      12 ∷ 14 ∷ 14 ∷ 18 ∷ 25 ∷ 25 ∷ 25 ∷ 30 ∷ 14 ∷ 14 ∷ 18 ∷ 21 ∷ 32 ∷ []
  pub upto_costs : listed_from 0 14 (cost_in_steps upto_layout upto (upto_from 1)) ≡
      0 ∷ 1 ∷ 1 ∷ 5 ∷ 7 ∷ 7 ∷ 7 ∷ 11 ∷ 12 ∷ 12 ∷ 16 ∷ 18 ∷ 19 ∷ 19 ∷ []
  pub upto_count : cost_in_steps upto_layout upto (upto_from 5) 41 ≡ 63
  pub doubling_marks : listed_from 0 8 (mark_in_steps doubling_layout doubling_end doubling (doubling_from (pos 536870912))) ≡
      12 ∷ 12 ∷ 17 ∷ 17 ∷ 12 ∷ 12 ∷ 19 ∷ 19 ∷ []
  pub doubling_costs : listed_from 0 9 (cost_in_steps doubling_layout doubling (doubling_from (pos 536870912))) ≡
      0 ∷ 0 ∷ 4 ∷ 4 ∷ 5 ∷ 5 ∷ 8 ∷ 8 ∷ 8 ∷ []
