-- What answers mean, law by law.
use Rattle.std.proofs.Common.{List, Option, Some, None, IfSome}
use Rattle.stack_shelf.specs.Files.{Files}
use Rattle.cli_stack.{specs.SessionMoments.{BuiltSaysEnds, BuiltSaysMoments}, specs.Answer.answer_to, specs.AnswerMeans.CommandMeans, specs.Tells.TellsMeanings}
use Rattle.cli_stack.{proofs.AssemblesLaws.assembles, proofs.ByTurnsLaws.each_task_is_told, proofs.DecidesLaws.decides, proofs.ExplainsLaws.explains}
use Rattle.cli_stack.{proofs.ImplementsLaws.{implements, implements_of, stores, stores_of}, proofs.LinksLaws.links, proofs.LowersLaws.lowers}
use Rattle.cli_stack.{proofs.MeansLaws.means, proofs.QuickensLaws.{stores_quick, stores_quick_of}, proofs.QuickRunsLaws.runs_quickly, proofs.RoomLaws.needs}
use Rattle.cli_stack.{proofs.ShowsRunsLaws.shows_runs, proofs.TaskCountLaws.HasFew, proofs.TellsLaws.tells}
use Rattle.level_debuggers.{specs.RunWalks.{MachinesArrive, MachinesWalk}, specs.ScriptSteps.{ArrivalsAreSaid, ShowIsSaid, StepsAreSaid, TextStays, UpIsSaid}}
use Rattle.level_debuggers.{specs.ScriptSteps.WordsAreSaid, specs.Tallies.Watching}
use Rattle.stack_build.{specs.Joined.{BuiltImplements, BuiltTakesValues}, specs.Meant.KeptMeansOnly, specs.PlacedWords.PlacedAreWords}
use Rattle.quick_generate.specs.DoesQuickly.{TextsAreQuickened}
use Rattle.command_line.specs.declared.command.Command.{Command}

pub answers_mean : BuiltImplements → BuiltTakesValues → KeptMeansOnly → PlacedAreWords → TextsAreQuickened → BuiltSaysMoments → BuiltSaysEnds
    → ShowIsSaid → UpIsSaid → WordsAreSaid → ArrivalsAreSaid → StepsAreSaid → TextStays → MachinesWalk → MachinesArrive
    → (o : Option Command) → IfSome o HasFew → (watches : List Watching) → IfSome o (λ command. CommandMeans command watches)
answers_mean implement take meant placed quick moments ends show up words arrivals steps stays walks arrive None few watches = tt
answers_mean implement take meant placed quick moments ends show up words arrivals steps stays walks arrive (Some c) few watches = record {
  answers = λ files. record {
    implements = implements c files (answer_to c watches files).output (stores implement c watches files);
    keeps = stores implement c watches files;
    tells = tells implement take c watches files;
    decides = decides meant implement take c watches files;
    means = means c watches files;
    links = links placed c watches files;
    assembles = assembles c watches files;
    needs = needs implement take c watches files;
    lowers = lowers implement take meant c watches files;
    explains = explains implement take moments ends up words arrivals steps stays walks arrive c watches files;
    shows = shows_runs show words arrivals steps stays walks arrive watches files c;
    turns = each_task_is_told implement take meant c few watches files;
    quickens = stores_quick quick c watches files;
    runs_quickly = runs_quickly c watches files;
  };
  stores = λ texts are. implements_of c texts (stores_of implement c texts are);
  keeps = stores_of implement c;
  quickens = stores_quick_of quick c;
}

pub answers_tell : BuiltImplements → BuiltTakesValues → (o : Option Command) (watches : List Watching) (files : Files)
    → IfSome o (λ command. TellsMeanings command files (answer_to command watches files))
answers_tell implement take None watches files = tt
answers_tell implement take (Some c) watches files = tells implement take c watches files
