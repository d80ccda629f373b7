-- Where the step machine stands after so many steps, and what a run shows there.
use Rattle.std.specs.Prelude.{◌≡◌, ℕ, zero, suc, List}
use Rattle.stack_text.specs.Values.{ValueOf}
use Rattle.gypsy_syntax.specs.Programs.{Program}
use Rattle.gypsy_space.specs.Needs.{StackSizes}
use Rattle.gypsy_semantics.specs.{Machine.{State, Move, Next, Ended, gypsy_step, start}, Views.RunView.{Seen, Stage, Running, Finished}}
use Rattle.gypsy_semantics.specs.Views.RunView.{ShowsSum, bare, spent_at}

-- one step more: what has ended stays as it is
abbrev pub moved_on : Move → (State → Move) → Move
moved_on (Next g) go = go g
moved_on (Ended x c t) go = Ended x c t

-- Where the step machine stands after so many steps: in a state, or at its end, with main's formals and a condition. What is
-- spent in it is the sum of the costs of these steps.
abbrev pub moment : Program → StackSizes → ℕ → State → Move
moment q sizes zero g = Next g
moment q sizes (suc j) g = moved_on (gypsy_step q sizes g) (moment q sizes j)

-- from these values of main's formals
abbrev pub moment_from : Program → StackSizes → List ValueOf → ℕ → Move
moment_from q sizes v j = moment q sizes j (start q v)

-- it goes on for ever
abbrev pub NeverEnds : Program → StackSizes → List ValueOf → Type 0
NeverEnds q sizes v = (j : ℕ) → (g : State) × (moment_from q sizes v j ≡ Next g)

-- the stage that is shown there, and what is spent
abbrev pub shown_stage : Move → Stage
shown_stage (Next g) = Running (bare g)
shown_stage (Ended x c t) = Finished x c

abbrev pub spent_by : Move → ℕ
spent_by (Next g) = spent_at g
spent_by (Ended x c t) = t.count

-- a run shows it
pub record IsMoment (v : Seen) (a : Move) : Type 0 where
  pub stage : v.stage ≡ shown_stage a
  pub counted : ShowsSum v.counted (spent_by a)
