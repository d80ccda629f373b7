-- That a command does all that it is for, where nothing is wrong with its files and its sizes and no device fails.
use Rattle.std.specs.Prelude.{◌≡◌, ◌≤◌, ℕ, List, [], ◌∷◌, Some, Ok, Contains, IsSomeAnd}
use Rattle.fm_words.specs.WindowLimit.{most_window}
use Rattle.stack_text.specs.Values.{ValueOf}
use Rattle.fm_image.specs.Spelling.{spelling}
use Rattle.fm_loader.specs.Values.{values_in}
use Rattle.display_maps.specs.Report.{report_text}
use Rattle.stack_shelf.specs.{Files.{Files, put_file}, Causes.{Rose}, Shelf.{appended}}
use Rattle.gypsy_syntax.specs.{Sources.{SourceOf}, Resolved.{program_of}}
use Rattle.gypsy_space.specs.Needs.{StackSizes}
use Rattle.gypsy_semantics.specs.Calls.{CurrentCondition}
use Rattle.gypsy_codegen.specs.Acceptable.{LimitsFit}
use Rattle.stack_build.specs.{Build.{accepted_source, placed_size}, Image.{formal_slots, image_of}, Implements.{meaning_shown, Finishes}}
use Rattle.command_line.specs.{declared.command.Command.{Command}, declared.role.Role.TheVariants.{Source, Values, Image}}
use Rattle.command_line.specs.{declared.status.Status.{Status}, declared.status.Status.TheVariants.{Done}, CommandFiles.{inputs_of}}
use Rattle.command_line.specs.CommandFiles.{file_names}
use Rattle.cli_stack.specs.{World.{World}, Tells.{planned_run}, FilesAndSizes.{IsReadable, StoresFile, sizes_of}}

-- no count of faults rose: of the shelf for one of these names, or of the sink
pub record NoFault (names : List (List ℕ)) (before after : World) : Type 0 where
  pub shelf : (name : List ℕ) → Contains names name → ¬ (Rose (before.shelf.counts.faults name) (after.shelf.counts.faults name))
  pub sink : ¬ (Rose before.out.faults after.out.faults)

-- the stacks have at least what main itself needs, and they, the code and the whole image are within their limits
pub record IsWithinLimits (source : SourceOf) (sizes : StackSizes) : Type 0 where
  pub limits : LimitsFit (program_of source) sizes 0
  pub image : placed_size source sizes 0 ≤ most_window

-- the file is there, and has a source that breaks no rule, whose needs and sizes are within the limits
pub record HasSource (files : Files) (name : List ℕ) (sizes : StackSizes) (source : SourceOf) : Type 0 where
  pub text : List ℕ
  pub readable : IsReadable files Source name text
  pub read : accepted_source text ≡ Ok source
  pub fits : IsWithinLimits source sizes

-- all went well, and this text was printed
pub record EndsWell (text : List ℕ) (before after : World) (status : Status) : Type 0 where
  pub ends : status ≡ Done
  pub printed : after.out.taken ≡ appended before.out.taken text

-- The image of the source, for stacks of these sizes, is under its name, and all other files are as before. Where main's formals
-- take the values and the meaning is done within the budget, its variables and its condition were told after the count.
pub record Completed (files : Files) (name : List ℕ) (source : SourceOf) (sizes : StackSizes) (values_text : List ℕ) (budget : ℕ)
    (before after : World) (status : Status) : Type 0 where
  pub stored : after.shelf.files ≡ Some (put_file files name (spelling (image_of source sizes 0)))
  pub told : (values finals : List ValueOf) (way : CurrentCondition) (count : ℕ)
      → values_in (formal_slots source) values_text ≡ Ok values
      → Finishes source sizes values finals way count → count ≤ budget
      → EndsWell (report_text (image_of source sizes 0) (meaning_shown source finals way) count) before after status

-- where the files are there, the source is accepted and no device fails, all that was completed
abbrev pub CompletesRun : Command → Files → List ℕ → List ℕ → List ℕ → StackSizes → ℕ → World → World → Status → Type 0
CompletesRun command files source_name values_name name sizes budget before after status =
    (source : SourceOf) (values_text : List ℕ)
    → HasSource files source_name sizes source → IsReadable files Values values_name values_text
    → NoFault (file_names (Some command)) before after
    → Completed files name source sizes values_text budget before after status

-- who reads a source and values and no other file, and stores an image, has sizes of stacks and a run, and completes it
abbrev pub CompletesCommand : Command → Files → World → World → Status → Type 0
CompletesCommand command files before after status =
    (source values image : List ℕ) → inputs_of command ≡ (Source, source) ∷ (Values, values) ∷ [] → StoresFile command Image image
    → IsSomeAnd (sizes_of command) (λ sizes. IsSomeAnd (planned_run command) (λ run.
    CompletesRun command files source values image sizes run.budget before after status))
