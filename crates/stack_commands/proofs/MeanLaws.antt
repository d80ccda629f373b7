-- What `mean` says of a run that ended.
use Rattle.std.proofs.Common.{◌≡◌, ℕ, List}
use Rattle.stack_text.specs.Values.{ValueOf}
use Rattle.gypsy_syntax.specs.Sources.{SourceOf}
use Rattle.gypsy_semantics.{specs.declared.conditions.Current.Current, specs.Views.RunView.{Seen, values_at}, specs.Views.Shown.{condition_at, names_at}}
use Rattle.stack_commands.specs.Commands.Mean.{said_text, ended_text}

-- it is said by what is shown of the run
pub said_is : (source : SourceOf) (seen : Seen) (steps counted : ℕ) (condition : Current) (names : List (List ℕ)) (values : List ValueOf)
    → steps ≡ seen.steps → counted ≡ seen.counted
    → condition ≡ condition_at source seen.stage → names ≡ names_at source seen.stage → values ≡ values_at seen.stage
    → said_text steps counted condition names values ≡ ended_text source seen
said_is source seen steps counted condition names values s c w n v = λ i. said_text (s i) (c i) (w i) (n i) (v i)
