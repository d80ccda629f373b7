-- What a run of the step machine shows, and what its steps do. The state has nothing spent: costs are counted apart.
use Rattle.std.specs.Prelude.{◌≡◌, ℕ, zero, suc, ◌+◌, ◌-◌, ◌^◌, min, length, List, [], ◌∷◌, Bool, true, false, Some, None}
use Rattle.stack_text.specs.Values.{ValueOf}
use Rattle.gypsy_syntax.specs.{Programs.{Program, proc_at}, ValuesFit.{VarsFit}}
use Rattle.gypsy_space.specs.{Costs.{start_tally}, Needs.{StackSizes}}
use Rattle.gypsy_semantics.specs.{Calls.{CurrentCondition, copied_out}, Kept.{EndFits, StateFits}, Machine.{Item, Do, Back, JoinThen}}
use Rattle.gypsy_semantics.specs.Machine.{JoinOne, Guard, Out, Frame, Held, State, At, Move, Next, Ended, gypsy_step, place_of, start}
use Rattle.gypsy_semantics.specs.{declared.answers.Moved.{Moved}, declared.answers.MeanRun.{MeanRun}}
use Rattle.gypsy_semantics.specs.declared.answers.Moved.TheVariants as moved
use Rattle.gypsy_semantics.specs.declared.answers.MeanRun.TheVariants as ran

-- where a run stands: in a state, or at its end with main's formals and a condition
pub data Stage : Type 0 where
  Running : (g : State) → Stage
  Finished : (x : List ValueOf) (c : CurrentCondition) → Stage

-- a state that fits, or main's formals with their shapes and a condition that main may end with
abbrev pub StageFits : Program → Stage → Type 0
StageFits q (Running g) = StateFits q g
StageFits q (Finished x c) = VarsFit (proc_at q q.main).formals x × EndFits q c

-- a run of a program from these values, with stacks of these sizes: where it stands, how many steps it made, their cost in
-- instructions, and that of the last one
pub record Seen : Type 0 where
  pub program : Program
  pub sizes : StackSizes
  pub values : List ValueOf
  pub stage : Stage
  pub steps : ℕ
  pub counted : ℕ
  pub cost : ℕ

-- a counter of 64 bits, which stays at its last value
abbrev pub added : ℕ → ℕ → ℕ
added a n = min (a + n) (2 ^ 64 - 1)

-- a counter shows a sum
abbrev pub ShowsSum : ℕ → ℕ → Type 0
ShowsSum shown n = shown ≡ min n (2 ^ 64 - 1)

-- Those that wait have lent their actuals to their callees: each with what it would get back now, where the activation above
-- has these variables.
abbrev pub handed_back : List ValueOf → List Frame → List Frame
handed_back y [] = []
handed_back y (Held p x w xs cs ∷ fs) = let z = copied_out xs y x in Held p z w xs cs ∷ handed_back z fs

-- so a state, and what a step comes to: no step looks at what is lent before it writes it
abbrev pub lending : State → State
lending (At p x w fs t) = At p x w (handed_back x fs) t

abbrev pub lending_move : Move → Move
lending_move (Next g) = Next (lending g)
lending_move (Ended x c t) = Ended x c t

-- so the state with nothing spent, and what was spent in it
abbrev pub bare : State → State
bare (At p x w fs t) = At p x w (handed_back x fs) start_tally

abbrev pub spent_at : State → ℕ
spent_at (At p x w fs t) = t.count

-- at the start, with these values of main's formals
abbrev pub opening : Program → StackSizes → List ValueOf → Seen
opening q sizes v =
    record { program = q; sizes = sizes; values = v; stage = Running (start q v); steps = 0; counted = 0; cost = 0 }

-- a step counts itself and its cost
abbrev pub after_move : Seen → Move → Seen
after_move v (Next g) =
    record v { stage = Running (bare g); steps = added v.steps 1; counted = added v.counted (spent_at g); cost = spent_at g }
after_move v (Ended x c t) =
    record v { stage = Finished x c; steps = added v.steps 1; counted = added v.counted t.count; cost = t.count }

abbrev pub left_from : Seen → Stage → Seen
left_from v (Running g) = after_move v (gypsy_step v.program v.sizes g)
left_from v (Finished x c) = v

-- what a step leaves; a step after the end changes nothing
unfoldable pub left_of : Seen → Seen
left_of v = left_from v v.stage

abbrev pub answer_by : Move → Moved
answer_by (Next g) = moved.Moved
answer_by (Ended x c t) = moved.Ended

abbrev pub answer_from : Seen → Stage → Moved
answer_from v (Running g) = answer_by (gypsy_step v.program v.sizes g)
answer_from v (Finished x c) = moved.Ended

-- what a step answers
unfoldable pub answer_of : Seen → Moved
answer_of v = answer_from v v.stage

-- so many steps one after the other
unfoldable pub after : ℕ → Seen → Seen
after zero v = v
after (suc k) v = after k (left_of v)

-- what no step changes
pub record IsOfRun (v w : Seen) : Type 0 where
  pub program : w.program ≡ v.program
  pub sizes : w.sizes ≡ v.sizes
  pub values : w.values ≡ v.values

-- how a run ends, and what it leaves
pub record Ran : Type 0 where
  pub run : MeanRun
  pub seen : Seen

abbrev pub end_by : Stage → MeanRun
end_by (Running g) = ran.Spent
end_by (Finished x c) = ran.Ended

abbrev pub ran_on : Moved → Seen → (Seen → Ran) → Ran
ran_on moved.Moved v go = go v
ran_on moved.Ended v go = record { run = ran.Ended; seen = v }

-- a run of at most so many steps
unfoldable pub meaning_run : ℕ → Seen → Ran
meaning_run zero v = record { run = end_by v.stage; seen = v }
meaning_run (suc limit) v = ran_on (answer_of v) (left_of v) (meaning_run limit)

-- a run of at most so many steps that ends with these values of main's formals and this condition
pub record IsEnd (r : Ran) (x : List ValueOf) (c : CurrentCondition) : Type 0 where
  pub run : r.run ≡ ran.Ended
  pub stage : r.seen.stage ≡ Finished x c

-- What is shown of a stage.

abbrev pub is_over : Stage → Bool
is_over (Running g) = false
is_over (Finished x c) = true

abbrev pub values_at : Stage → List ValueOf
values_at (Running (At p x w fs t)) = x
values_at (Finished x c) = x

-- how many activations there are
abbrev pub depth_at : Stage → ℕ
depth_at (Running (At p x w fs t)) = length fs + 1
depth_at (Finished x c) = 1

abbrev pub procedure_at : Program → Stage → ℕ
procedure_at q (Running (At p x w fs t)) = p
procedure_at q (Finished x c) = q.main

-- of the top item, and main's at the end
abbrev pub place_at : Program → Stage → ℕ
place_at q (Running g) = place_of q g
place_at q (Finished x c) = (proc_at q q.main).place

-- normal, but where a condition is on its way out
abbrev pub top_way : List Item → CurrentCondition
top_way [] = None
top_way (Do s ∷ w) = None
top_way (Back place s ∷ w) = None
top_way (JoinThen place s ∷ w) = None
top_way (JoinOne place ∷ w) = None
top_way (Guard place cs s ∷ w) = None
top_way (Out c ∷ w) = Some c

abbrev pub way_at : Stage → CurrentCondition
way_at (Running (At p x w fs t)) = top_way w
way_at (Finished x c) = c
