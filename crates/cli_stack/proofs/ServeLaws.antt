-- What is promised if memory runs out before it is known what the words ask for: nothing was done.
use Rattle.std.proofs.Common.{◌≡◌, ◌⊎◌, inl, inr, ℕ, List, Option, Some, None, IfSome, Err, refl}
use Rattle.stack_shelf.{specs.Files.Files, specs.Causes.Counts}
use Rattle.fm_machine.specs.State.{MachineOf}
use Rattle.level_debuggers.specs.Tallies.{Watching}
use Rattle.command_line.{specs.declared.command.Command.Command, specs.declared.status.Status.Status, specs.declared.status.Status.TheVariants.OutOfMemory}
use Rattle.command_line.specs.Status.{status_code}
use Rattle.command_line.specs.declared.early_end.EarlyEnd.TheVariants as early
use Rattle.cli_stack.{specs.declared.conversing.Talk.Talk, specs.Answer.answer_to, specs.Driver.Leaves, specs.Promises.KeepsPromises, specs.Ran.{Logs, RunDid}}
use Rattle.cli_stack.{specs.RepliesTo.Devices, specs.Converses.{Converses, ShelfActs, TalkActs, TalkWorld}, specs.TalkRan.{TalkLogs, TalkRan}}
use Rattle.cli_stack.{specs.Tells.TellsMeanings, specs.World.{ShelfOf, shelf_of, world}, proofs.PromisesLaws.promises}

left_as_before : (command : Option Command) (watches : List Watching) (files : Option Files) (counts : Counts)
    → IfSome files (λ fs. Leaves command watches fs (shelf_of files counts) (shelf_of files counts) (Err early.OutOfMemory))
left_as_before command watches None counts = tt
left_as_before command watches (Some fs) counts = inl refl

pub nothing_promised : {S K : Type 0} (heap shelf sink : Type 0) (devices : Devices S K) (command : Option Command) (watches : List Watching)
    (files : Option Files) (counts : Counts) (taken : Option (List ℕ)) (faults : ℕ) (kept : Option MachineOf) → heap
    → ((fs : Files) → IfSome command (λ c. TellsMeanings c fs (answer_to c watches fs)))
    → KeepsPromises (heap ⊎ (shelf ⊎ sink)) devices command watches (world files counts taken faults kept) (world files counts taken faults kept) OutOfMemory
nothing_promised heap shelf sink devices command watches files counts taken faults kept refused tells =
    promises heap shelf sink devices command watches (world files counts taken faults kept) (world files counts taken faults kept)
    (Err early.OutOfMemory) OutOfMemory (left_as_before command watches files counts) (inl refused) tt
    (inl record { ends = refl; refused = inr refl; text = refl; machine = refl }) tells

pub nothing_ran : (command : Option Command) (watches : List Watching) (before after : ShelfOf) (logs : Logs)
    → RunDid command watches before after logs logs OutOfMemory
nothing_ran command watches before after logs = record {
  replied = λ a b c d. absurd (d refl);
  went = λ done. absurd cc;
}

any_files : (o : Option Files) → IfSome o (λ _. Unit {0})
any_files None = tt
any_files (Some files) = tt

nothing_conversed : {S L K : Type 0} (heap shelf lines sink : Type 0) (s : ShelfActs S) (d : TalkActs L K) (talk : Talk) (watches : List Watching)
    (w : TalkWorld S L K) → heap → Converses heap shelf lines sink s d talk watches w w OutOfMemory
nothing_conversed heap shelf lines sink s d talk watches w refused = record {
  found = Err early.OutOfMemory;
  finds = record { cause = inl refused; known = any_files (s.files w.shelf) };
  files = refl;
  tells = (refl, (None, inl record { ends = refl; refused = inr refl; text = refl; machine = refl }));
}

nothing_asked : (talk : Talk) (watches : List Watching) (before after : ShelfOf) (logs : TalkLogs)
    → TalkRan talk watches before after logs logs OutOfMemory
nothing_asked talk watches before after logs = λ a b c d. absurd (d refl)

-- whichever session was asked for, if one was
pub gave_up : {S L K : Type 0} (heap shelf lines sink : Type 0) (s : ShelfActs S) (d : TalkActs L K) (watches : List Watching) (w : TalkWorld S L K)
    (before after : ShelfOf) (logs : TalkLogs) (result : ℕ) → result ≡ status_code OutOfMemory → heap → (o : Option Talk)
    → IfSome o (λ talk. (status : Status) × (result ≡ status_code status) × Converses heap shelf lines sink s d talk watches w w status
    × TalkRan talk watches before after logs logs status)
gave_up heap shelf lines sink s d watches w before after logs result is refused None = tt
gave_up heap shelf lines sink s d watches w before after logs result is refused (Some talk) = (
  OutOfMemory,
  is,
  nothing_conversed heap shelf lines sink s d talk watches w refused,
  nothing_asked talk watches before after logs,
)
