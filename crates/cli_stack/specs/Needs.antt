-- That calls have room at the sizes that `need` tells, and at those at which `cert` says yes: no run of the source sets spaceerror.
use Rattle.std.specs.Prelude.{◌≡◌, ◌≢◌, ℕ, List, [], get_or, Some, None, Ok, codes}
use Rattle.stack_text.specs.{Lines.{line}, Values.{ValueOf}}
use Rattle.stack_shelf.specs.Files.{Files}
use Rattle.fm_image.specs.Image.{ImageOf}
use Rattle.level_debuggers.specs.Tallies.{Watching}
use Rattle.gypsy_syntax.specs.{Programs.{Space}, Resolved.{procedure_names, program_of}, Sources.{SourceOf}}
use Rattle.gypsy_space.specs.Needs.{StackSizes, stack_sizes}
use Rattle.gypsy_semantics.specs.Calls.{CurrentCondition}
use Rattle.space_cert.specs.{CertText.{certificate_text}, Covers.{Bounds, sizes_for}, Least.{AreLeastBounds, IsFirstRecursive}}
use Rattle.space_cert.specs.Never.{NeverSpaceError}
use Rattle.stack_build.specs.Build.{accepted_source}
use Rattle.command_line.specs.{declared.command.Command.{Command}, declared.command.Command.TheVariants.{Go, Need, Cert}}
use Rattle.command_line.specs.{declared.role.Role.TheVariants.{Source}, declared.status.Status.TheVariants.{Done, Recursive}}
use Rattle.command_replies.specs.declared.reply.Verdict.TheVariants as verdict
use Rattle.command_replies.specs.Replies.{verdict_line}
use Rattle.stack_commands.specs.Commands.Need.{sizes_text}
use Rattle.cli_stack.specs.{Answer.{Answer, answer_to}, Tells.{TellsReport}, FilesAndSizes.{IsReadable}}

-- the answer is the report of a run that ended, and not with spaceerror
pub record TellsOther (source : SourceOf) (answer : Answer) : Type 0 where
  pub image : ImageOf
  pub finals : List ValueOf
  pub way : CurrentCondition
  pub count : ℕ
  pub other : way ≢ Some Space
  pub tells : TellsReport source image finals way count answer

-- so is every answer of `go` on the source in a file, with stacks of these sizes, where all goes well
abbrev pub GoesOther : Files → List ℕ → SourceOf → StackSizes → Type 0
GoesOther files name source sizes =
    (values image : List ℕ) (budget : ℕ) (watches : List Watching) →
    (answer_to (Go name values sizes.ctrl sizes.temp budget image) watches files).status ≡ Done →
    TellsOther source (answer_to (Go name values sizes.ctrl sizes.temp budget image) watches files)

-- the file is there, with a source of which no run sets spaceerror with stacks of these sizes, whatever the values are
pub record HasRoom (files : Files) (name : List ℕ) (sizes : StackSizes) : Type 0 where
  pub text : List ℕ
  pub readable : IsReadable files Source name text
  pub source : SourceOf
  pub read : accepted_source text ≡ Ok source
  pub never : (values : List ValueOf) → NeverSpaceError (program_of source) sizes values
  pub goes : GoesOther files name source sizes

-- the answer tells the sizes that the least certificate is enough for, and its text is what is stored
pub record TellsSizes (files : Files) (name certificate : List ℕ) (answer : Answer) : Type 0 where
  pub sizes : StackSizes
  pub room : HasRoom files name sizes
  pub bounds : Bounds
  pub least : AreLeastBounds (program_of room.source) bounds
  pub enough : sizes ≡ sizes_for (program_of room.source) bounds
  pub text : answer.text ≡ sizes_text sizes
  pub stored : answer.output ≡ Some (certificate, certificate_text (procedure_names room.source) bounds)

-- the answer tells the first procedure that main reaches and that reaches itself, and nothing is stored
pub record TellsRecursive (files : Files) (name : List ℕ) (answer : Answer) : Type 0 where
  pub text : List ℕ
  pub readable : IsReadable files Source name text
  pub source : SourceOf
  pub read : accepted_source text ≡ Ok source
  pub procedure : ℕ
  pub first : IsFirstRecursive (program_of source) procedure
  pub told : answer.text ≡ verdict_line (verdict.Recursive (get_or (procedure_names source) procedure []))
  pub stored : answer.output ≡ None

pub record TellsNeed (files : Files) (name certificate : List ℕ) (answer : Answer) : Type 0 where
  pub done : answer.status ≡ Done → TellsSizes files name certificate answer
  pub recursive : answer.status ≡ Recursive → TellsRecursive files name answer

-- so `need` answers; and where `cert` says yes, calls have room at its sizes
abbrev pub Needs : Command → Files → Answer → Type 0
Needs (Need source certificate) files answer = TellsNeed files source certificate answer
Needs (Cert source certificate control temporary) files answer =
    answer.text ≡ line (codes "yes") → HasRoom files source (stack_sizes control temporary)
Needs command files answer = Unit {0}
