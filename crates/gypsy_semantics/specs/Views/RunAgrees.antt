-- A run of the step machine and the meaning of its program.
use Rattle.std.specs.Prelude.{◌≡◌, ℕ, suc, List, Some}
use Rattle.stack_text.specs.Values.{ValueOf}
use Rattle.gypsy_semantics.specs.{Calls.{CurrentCondition}, Meaning.{Done, meaning}, Counted.{instruction_count}, Views.RunView.{Seen}}
use Rattle.gypsy_semantics.specs.{Views.RunView.{Stage, Running, Finished, ShowsSum}, declared.answers.MeanRun.{MeanRun}}
use Rattle.gypsy_semantics.specs.declared.answers.MeanRun.TheVariants as ran

-- after so many steps, the last of which ended the run, the meaning at one more is done, and its instructions are counted
pub record MeansEnd (v : Seen) (x : List ValueOf) (c : CurrentCondition) : Type 0 where
  pub made : ℕ
  pub count : ℕ
  pub steps : ShowsSum v.steps made
  pub counted : ShowsSum v.counted count
  pub meaning_is : meaning v.program v.sizes v.values (suc made) ≡ Done x c
  pub count_is : instruction_count v.program v.sizes v.values (suc made) ≡ Some count

abbrev pub EndAgrees : Seen → Stage → Type 0
EndAgrees v (Running g) = ⊥
EndAgrees v (Finished x c) = MeansEnd v x c

-- what the answer of a run says of the meaning
abbrev pub RunAgrees : Seen → MeanRun → Type 0
RunAgrees v ran.Ended = EndAgrees v v.stage
RunAgrees v ran.Spent = Unit {0}
