-- What an answer of the program means, whatever the files are.
use Rattle.std.specs.Prelude.{List, ℕ, IfSome}
use Rattle.stack_shelf.specs.Files.{Files}
use Rattle.level_debuggers.specs.Tallies.{Watching}
use Rattle.command_line.specs.{declared.command.Command.{Command}, CommandRows.{command_of}, Gathered.{Texts}}
use Rattle.cli_stack.specs.{Answer.{Answer, answer_to}, Implements.{StoresImplementation, StoresImplementationOf, StoresMoments}}
use Rattle.cli_stack.specs.{Implements.{StoresMomentsOf}, RepliesTo.{AreTexts}, Tells.{TellsMeanings}, Decides.{Decides}}
use Rattle.cli_stack.specs.{Means.{FollowsMeanings}, Links.{StoresLinked}, Assembles.{Assembles}, Needs.{Needs}, Lowers.{LowersPrograms}}
use Rattle.cli_stack.specs.{Explains.{Explains}, ShowsRuns.{ShowsRuns}, Turns.{TellsEach}, Quickens.{StoresQuickened, StoresQuickenedOf}}
use Rattle.cli_stack.specs.QuickRuns.{RunsQuickly}

pub record AnswerMeans (command : Command) (watches : List Watching) (files : Files) (answer : Answer) : Type 0 where
  -- the image that is stored for a source implements it
  pub implements : StoresImplementation command files answer.output
  -- and keeps to it at every moment
  pub keeps : StoresMoments command files answer.output
  -- a run of an image that implements a source tells the meaning, where that is done within the budget
  pub tells : TellsMeanings command files answer
  -- what `go` tells is the meaning, or that this isn't done within the budget
  pub decides : Decides command files answer
  -- what `mean` tells is the meaning
  pub means : FollowsMeanings command files answer
  -- the image that is stored for a Piton text does as the text's system
  pub links : StoresLinked command files answer.output
  -- the image that is stored for an assembly text is the one that it spells, and the other way round
  pub assembles : Assembles command files answer.output
  -- at the sizes that `need` tells, and where `cert` says yes, no run of the source sets spaceerror
  pub needs : Needs command files answer
  -- what `mini` stores means what its program does, and so does what is built of that, and what `go` tells of it
  pub lowers : LowersPrograms command files answer
  -- where the source's step machine comes to a state, `debug` says it, and at the end the meaning
  pub explains : Explains command watches files answer
  -- `pdebug` and `idebug` show the run of the Piton text, or of the image: where it stands after the steps, its memory, and arrivals
  pub shows : ShowsRuns command watches files answer
  -- sources whose images take turns are told each as it is alone
  pub turns : TellsEach command files answer
  -- the image that `quick` stores is the quickened one, and does what its source means in no more instructions than are counted
  pub quickens : StoresQuickened command files answer.output
  -- a run of an image that does so tells the meaning
  pub runs_quickly : RunsQuickly command files answer

-- So do all answers to a command. And of whatever texts a shelf gives, the image that is stored implements the source among them.
pub record CommandMeans (command : Command) (watches : List Watching) : Type 0 where
  pub answers : (files : Files) → AnswerMeans command watches files (answer_to command watches files)
  pub stores : (texts : Texts) → AreTexts command texts → StoresImplementationOf command texts
  pub keeps : (texts : Texts) → AreTexts command texts → StoresMomentsOf command texts
  pub quickens : (texts : Texts) → AreTexts command texts → StoresQuickenedOf command texts

-- the command that these words ask for
abbrev pub AnswersMean : List (List ℕ) → List Watching → Type 0
AnswersMean words watches = IfSome (command_of words) (λ command. CommandMeans command watches)
