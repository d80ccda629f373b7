-- That what is told of a source's steps is what the source means.
use Rattle.std.specs.Prelude.{◌≡◌, ◌≤◌, ℕ, suc, List, [], ◌∷◌, Option, Some, None, Ok, IsSomeAnd}
use Rattle.stack_text.specs.Values.{ValueOf}
use Rattle.stack_shelf.specs.Files.{Files}
use Rattle.fm_loader.specs.Values.{values_in}
use Rattle.gypsy_syntax.specs.{Sources.{SourceOf}, Resolved.{program_of}}
use Rattle.gypsy_space.specs.Needs.{StackSizes, stack_sizes}
use Rattle.gypsy_semantics.specs.{Room.{Suffices}, Calls.{CurrentCondition}, Counted.{instruction_count}, Meaning.{Done as MeaningDone}}
use Rattle.gypsy_semantics.specs.{Meaning.{meaning}, Views.RunView.{Stage, Finished, IsEnd, opening, meaning_run, values_at}}
use Rattle.gypsy_semantics.specs.Views.Shown.{condition_at, names_at}
use Rattle.piton_semantics.specs.StateView.{saturated}
use Rattle.stack_build.specs.{Build.{accepted_source}, Image.{formal_slots}}
use Rattle.command_line.specs.{declared.command.Command.{Command}, declared.command.Command.TheVariants.{Mean}}
use Rattle.command_line.specs.{declared.role.Role.TheVariants.{Source, Values}, declared.status.Status.TheVariants.{Done}}
use Rattle.command_line.specs.CommandFiles.{inputs_of, output_of}
use Rattle.cli_stack.specs.{Answer.{Answer}, FilesAndSizes.{IsReadable}}
use Rattle.stack_commands.specs.Commands.Mean.{said_text}

-- a run of a source's steps: the files of the source and of its values, the sizes of the stacks, and the most steps
pub record FollowOf : Type 0 where
  pub source : List ℕ
  pub values : List ℕ
  pub sizes : StackSizes
  pub limit : ℕ

-- what a command follows
abbrev pub follow_of : Command → Option FollowOf
follow_of (Mean source values control temporary limit) =
    Some (record { source = source; values = values; sizes = stack_sizes control temporary; limit = limit })
follow_of _ = None

-- so many steps, the instructions that are counted for them, the condition, and main's formals with these values
abbrev pub meaning_text : SourceOf → Stage → ℕ → ℕ → List ℕ
meaning_text source stage steps count =
    said_text (saturated steps) (saturated count) (condition_at source stage) (names_at source stage) (values_at stage)

-- the meaning of the source is done, with these values and this condition, and so many instructions counted, within a bound of
-- one more than the steps
pub record MeansInSteps (source : SourceOf) (sizes : StackSizes) (values finals : List ValueOf) (way : CurrentCondition)
    (steps count : ℕ) : Type 0 where
  pub meaning_is : meaning (program_of source) sizes values (suc steps) ≡ MeaningDone finals way
  pub counted : instruction_count (program_of source) sizes values (suc steps) ≡ Some count

-- the answer is that all went well, and tells such a meaning
pub record TellsSteps (source : SourceOf) (sizes : StackSizes) (values finals : List ValueOf) (way : CurrentCondition)
    (answer : Answer) : Type 0 where
  pub steps : ℕ
  pub count : ℕ
  pub meant : MeansInSteps source sizes values finals way steps count
  pub status : answer.status ≡ Done
  pub text : answer.text ≡ meaning_text source (Finished finals way) steps count

-- what is told is a meaning; a run of the source's steps that ends within the limit is told; and where the meaning is done, some run
-- ends so
pub record Follows (source : SourceOf) (sizes : StackSizes) (values : List ValueOf) (limit : ℕ) (answer : Answer) : Type 0 where
  pub told : answer.status ≡ Done → (finals : List ValueOf) × (way : CurrentCondition) × TellsSteps source sizes values finals way answer
  pub within : (k : ℕ) (finals : List ValueOf) (way : CurrentCondition) → k ≤ limit
      → IsEnd (meaning_run k (opening (program_of source) sizes values)) finals way → TellsSteps source sizes values finals way answer
  pub ends : (bound : ℕ) (finals : List ValueOf) (way : CurrentCondition) →
      meaning (program_of source) sizes values bound ≡ MeaningDone finals way
      → (k : ℕ) × IsEnd (meaning_run k (opening (program_of source) sizes values)) finals way

-- where the files are there, the source is accepted, the stacks are large enough for main itself, and the values fit
abbrev pub FollowsFiles : FollowOf → Files → Answer → Type 0
FollowsFiles follow files answer =
    (text : List ℕ) (source : SourceOf) (values_text : List ℕ) (values : List ValueOf)
    → IsReadable files Source follow.source text → accepted_source text ≡ Ok source → Suffices (program_of source) follow.sizes
    → IsReadable files Values follow.values values_text → values_in (formal_slots source) values_text ≡ Ok values
    → Follows source follow.sizes values follow.limit answer

-- who reads a source and values alone, and writes no file, follows the source's steps and tells what it means
abbrev pub FollowsMeanings : Command → Files → Answer → Type 0
FollowsMeanings command files answer =
    (source values : List ℕ) → inputs_of command ≡ (Source, source) ∷ (Values, values) ∷ [] → output_of command ≡ None
    → IsSomeAnd (follow_of command) (λ follow. (follow.source ≡ source) × (follow.values ≡ values) × FollowsFiles follow files answer)
