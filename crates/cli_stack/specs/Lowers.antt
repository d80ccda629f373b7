-- That the source which is stored of an infix program means what the program does, so that the images which are built of it carry the
-- program's runs to memory, and `go` tells them.
use Rattle.std.specs.Prelude.{◌≡◌, ◌≤◌, ◌<◌, ℕ, ◌+◌, ◌*◌, List, length, map, Option, Some, None, Ok}
use Rattle.stack_text.specs.{declared.shape.Shape.{Shape}, Values.{ValueOf}}
use Rattle.stack_shelf.specs.Files.{Files, file_at}
use Rattle.fm_image.specs.{Image.{ImageOf}, Spelling.{Spelled}}
use Rattle.gypsy_syntax.specs.{declared.literal.Decl.{Decl}, Resolved.{program_of, shape_of}, Sources.{SourceOf}}
use Rattle.gypsy_semantics.specs.{Calls.{CurrentCondition}, Meaning.{Done as RunDone, Unfinished as RunUnfinished}}
use Rattle.gypsy_space.specs.Needs.{StackSizes, stack_sizes}
use Rattle.stack_build.specs.{Build.{accepted_source}, Formals.{shown_formals}, Implements.{meaning_shown, FitsFormals, Finishes}}
use Rattle.stack_build.specs.ComesTo.{ComesTo}
use Rattle.mini_syntax.specs.{MiniReading.{IsFault, IsFaultless}, Breaches.{body_of, declared_of}, declared.program.Declared.{Declared}}
use Rattle.mini_syntax.specs.Grammar.{InfixProgram}
use Rattle.mini_gypsy.specs.{Lowered.{kind_of}, Meant.{program_run}, Stored.{MeansAlways}}
use Rattle.command_line.specs.{declared.command.Command.{Command}, declared.command.Command.TheVariants.{Go, Mini}}
use Rattle.command_line.specs.{declared.role.Role.TheVariants.{Infix, Source, Image}, declared.status.Status.TheVariants.{Done, Refused}}
use Rattle.command_replies.specs.{declared.reply.RuleLetter.TheVariants.{Y}, Replies.{verdict_line}}
use Rattle.command_replies.specs.declared.reply.Verdict.TheVariants as verdict
use Rattle.cli_stack.specs.{Answer.{Answer}, Tells.{TellsReport}, Decides.{IsReadyToRun, TellsUnfinished}, FilesAndSizes.{ReadsFile}}
use Rattle.cli_stack.specs.FilesAndSizes.{StoresFile, IsReadable}

-- 1. What is stored of a program.

-- a formal of main and a declared variable, with the type of its values
abbrev pub formal_type : Decl → List ℕ × Shape
formal_type d = (d.name.name, shape_of d.shape)

abbrev pub declared_type : Declared → List ℕ × Shape
declared_type d = (d.name, record { kind = kind_of d.sort; length = 0 })

-- the text is read as a source that is accepted, has the program's variables with their types, and means what the program does
pub record MeansProgram (text : List ℕ) (program : InfixProgram) : Type 0 where
  pub source : SourceOf
  pub read : accepted_source text ≡ Ok source
  pub variables : map formal_type (shown_formals source) ≡ map declared_type (declared_of program)
  pub means : MeansAlways (program_of source) (body_of program)

-- a file has a program that breaks no rule, and what is stored under this name is a source that means what the program does
pub record StoresLowered (files : Files) (name stored : List ℕ) (answer : Answer) : Type 0 where
  pub text : List ℕ
  pub readable : IsReadable files Infix name text
  pub program : InfixProgram
  pub faultless : IsFaultless text program
  pub bytes : List ℕ
  pub output : answer.output ≡ Some (stored, bytes)
  pub means : MeansProgram bytes program
  pub short : length bytes ≤ 60 * length text + 2000

-- a file has a text with a fault, which is told, and nothing is stored
pub record TellsFault (files : Files) (name : List ℕ) (answer : Answer) : Type 0 where
  pub text : List ℕ
  pub readable : IsReadable files Infix name text
  pub rule : ℕ
  pub place : ℕ
  pub fault : IsFault text rule place
  pub told : answer.text ≡ verdict_line (verdict.Refused Y rule place)
  pub output : answer.output ≡ None

pub record TellsMini (files : Files) (name stored : List ℕ) (answer : Answer) : Type 0 where
  pub done : answer.status ≡ Done → StoresLowered files name stored answer
  pub refused : answer.status ≡ Refused → TellsFault files name answer

-- 2. What is built of that.

-- the program's run on these values is done within some bound, with these variables and this condition
abbrev pub RunEnds : InfixProgram → List ValueOf → List ValueOf → CurrentCondition → Type 0
RunEnds program values finals way = (n : ℕ) × (program_run (body_of program) values n ≡ RunDone finals way)

-- on all values that fit, where the program's run is done, the loaded machine comes to its end, and memory shows how the run ended
abbrev pub CarriesRuns : ImageOf → SourceOf → InfixProgram → Type 0
CarriesRuns image source program =
    (values finals : List ValueOf) (way : CurrentCondition) → FitsFormals source values → RunEnds program values finals way
    → (count : ℕ) × ComesTo image values count (meaning_shown source finals way)

-- the bytes are the file of such an image
pub record HoldsRuns (bytes : List ℕ) (source : SourceOf) (program : InfixProgram) : Type 0 where
  pub image : ImageOf
  pub spells : Spelled bytes image
  pub runs : CarriesRuns image source program

-- who reads a source that means what a program does, and stores an image, stores one that carries the program's runs
abbrev pub StoresRuns : Command → Files → Option (List ℕ × List ℕ) → Type 0
StoresRuns command files output =
    (source image stored bytes text : List ℕ) (program : InfixProgram) → ReadsFile command Source source → StoresFile command Image image
    → output ≡ Some (stored, bytes) → file_at files source ≡ Some text → (means : MeansProgram text program)
    → HoldsRuns bytes means.source program

-- from a count of instructions on the answer tells this end, and below it `unfinished`
pub record TellsFrom (source : SourceOf) (sizes : StackSizes) (image : ImageOf) (values finals : List ValueOf) (way : CurrentCondition)
    (budget : ℕ) (answer : Answer) : Type 0 where
  pub count : ℕ
  pub meant : Finishes source sizes values finals way count
  pub within : count ≤ budget → TellsReport source image finals way count answer
  pub beyond : budget < count → TellsUnfinished budget answer

-- where the program's run is done, how it ended is told so; and where it is done at no bound, the answer is `unfinished`
pub record TellsRuns (program : InfixProgram) (source : SourceOf) (sizes : StackSizes) (image : ImageOf) (values : List ValueOf)
    (budget : ℕ) (answer : Answer) : Type 0 where
  pub ends : (finals : List ValueOf) (way : CurrentCondition) → RunEnds program values finals way
      → TellsFrom source sizes image values finals way budget answer
  pub endless : ((n : ℕ) → program_run (body_of program) values n ≡ RunUnfinished) → TellsUnfinished budget answer

-- 3. All commands.

-- `go`, where all is ready and the source means what a program does, tells runs so; and `mini` stores or tells a fault so
abbrev pub TellsOwn : Command → Files → Answer → Type 0
TellsOwn (Go source values control temporary budget image) files answer =
    (is : IsReadyToRun files source values (stack_sizes control temporary)) (program : InfixProgram) → MeansProgram is.built.text program
    → TellsRuns program is.source (stack_sizes control temporary) is.image is.values budget answer
TellsOwn (Mini program source) files answer = TellsMini files program source answer
TellsOwn command files answer = Unit {0}

pub record LowersPrograms (command : Command) (files : Files) (answer : Answer) : Type 0 where
  pub own : TellsOwn command files answer
  pub images : StoresRuns command files answer.output
