-- Only the end of a run of an image leaves a machine.
use Rattle.std.proofs.Common.{◌≡◌, ◌⊎◌, inl, inr, ⊎_elim, ℕ, List, Bool, true, false, Option, None, Some, Result, Ok, Err, refl, sym, ap, subst}
use Rattle.std.{specs.Prelude.{◌^◌, codes, if◌then◌else◌}, specs.Option.option_map}
use Rattle.fm_machine.{specs.Outcome.{RunOutcome, outcome}, specs.State.{Fm, MachineOf}, specs.declared.processor.Run.Run}
use Rattle.fm_machine.specs.declared.processor.Run.TheVariants as run
use Rattle.fm_image.{specs.Image.ImageOf, specs.Reading.read_of}
use Rattle.stack_text.{specs.declared.breach.Breach.Breach, specs.Values.ValueOf}
use Rattle.fm_asm.{specs.Assembling.assembly_of, specs.Printing.is_plain}
use Rattle.fm_loader.{specs.Loaded.loaded, specs.Values.values_in}
use Rattle.piton_syntax.specs.Systems.{SystemOf}
use Rattle.piton_check.{specs.PitonChecking.CheckedOf, specs.Instruction.SystemView}
use Rattle.piton_semantics.{specs.Fits.system_in, specs.Placed.placed, specs.declared.stepped.PitonRun.PitonRun, specs.StateView.{Ran, state_run, opening}}
use Rattle.piton_semantics.specs.StateView.{Seen as PitonSeen}
use Rattle.piton_semantics.specs.declared.stepped.PitonRun.TheVariants as piton_run
use Rattle.gypsy_syntax.{specs.Resolved.{procedure_names, program_of}, specs.Sources.SourceOf}
use Rattle.space_cert.{specs.Certified.certified, specs.CertText.bounds_in, specs.Covers.Bounds}
use Rattle.gypsy_space.specs.Needs.{StackSizes as StackWords, stack_sizes}
use Rattle.gypsy_semantics.{specs.declared.answers.MeanRun.MeanRun, specs.Views.RunView.{Seen as MeanSeen, Ran as MeanRan, meaning_run as mean_run_of}}
use Rattle.gypsy_semantics.specs.declared.answers.MeanRun.TheVariants as mean_run
use Rattle.gypsy_gen.specs.Large.{large_of}
use Rattle.debug_script.{specs.declared.fault.ScriptFault.ScriptFault, specs.declared.reading.Line.Line, specs.Scripts.script_of}
use Rattle.level_debuggers.{specs.Levels.LevelOf, specs.Tallies.Watching}
use Rattle.stack_build.{specs.declared.fault.BuildFault.BuildFault, specs.declared.start_fault.StartFault.StartFault, specs.Starts.gypsy_start}
use Rattle.stack_build.{specs.Build.{BuiltOf, built, source_built, compiled}, specs.Image.linked_image}
use Rattle.fm_turns.specs.Starting.{NewTask}
use Rattle.command_line.{specs.declared.command.Command.Command, specs.Gathered.{Texts, text_of, texts_of}}
use Rattle.command_line.specs.declared.command.Command.TheVariants as command
use Rattle.command_line.specs.declared.role.Role.TheVariants as role
use Rattle.stack_commands.{specs.declared.turns.tasks.TasksFault.TasksFault, specs.Prepared.reply_by, specs.Commands.Go.go_reply}
use Rattle.stack_commands.{specs.Commands.Big.{go_on_source, big_reply}, specs.Commands.Build.build_reply, specs.Commands.Debug.{run_in, lines_reply}}
use Rattle.stack_commands.{specs.Commands.Debug.{script_reply, session_reply}, specs.Commands.Mean.{mean_end_reply, mean_run_reply, mean_started_reply}}
use Rattle.stack_commands.{specs.Commands.Mean.mean_accepted_reply, specs.Commands.Pbuild.{is_large, linked_reply, checked_reply}, specs.Commands.Pit.pit_reply}
use Rattle.stack_commands.{specs.Commands.Need.{bounds_reply, certified_reply, need_reply_by}, specs.Commands.Cert.{judged_reply, certificate_reply}}
use Rattle.stack_commands.{specs.Commands.Cert.cert_reply_by, specs.Commands.SourceText.accepted_in, specs.Commands.Turns.{fault_reply, tasks_of, tasks_reply}}
use Rattle.stack_commands.{specs.Commands.Turns.turns_by, specs.Commands.Quick.{quick_built, quick_reply}, specs.Commands.Idebug.image_run_in}
use Rattle.stack_commands.specs.Commands.Pdebug.{piton_run_in}
use Rattle.stack_commands.specs.declared.turns.tasks.TasksFault.TheVariants as tasks_fault
use Rattle.command_replies.{specs.declared.reply.Reply.Reply, specs.declared.reply.SizeOf.TheVariants.Words, specs.declared.reply.Verdict.Verdict}
use Rattle.command_replies.specs.Replies.{ReplyOf, reply_of, status_of, verdict_alone, judgement_reply, built_reply, written_reply}
use Rattle.command_replies.{specs.Commands.PitonText.checked_in, specs.Commands.Prun.{run_end_reply, checked_run_reply, system_run_reply}}
use Rattle.command_replies.{specs.Commands.Run.{end_reply, run_reply, values_reply, image_reply}, specs.Commands.Show.listing_reply}
use Rattle.command_replies.{specs.Commands.Migrate.migrated_reply, specs.Commands.Asm.assembled_reply, specs.Commands.Mini.{lowering_of, lowered_reply}}
use Rattle.command_replies.specs.Commands.Unasm.{printed_reply}
use Rattle.command_replies.specs.declared.reply.Verdict.TheVariants as verdict
use Rattle.cli_stack.specs.Kept.{RunsImage, IsRunEnd}

-- 1. Who may leave a machine.

-- there is no machine, or it is at the end of a run
abbrev NoneOrEnd : ReplyOf → Type 0
NoneOrEnd reply = (reply.state ≡ None) ⊎ IsRunEnd (status_of reply.verdict)

end_ends : (image : ImageOf) (budget : ℕ) (r : Run) (s : Fm) → IsRunEnd (status_of (end_reply image budget r s).verdict)
end_ends image budget (run.Ended count) s = tt
end_ends image budget run.Spent s = tt
end_ends image budget (run.Outside address count) s = tt

run_ends : (image : ImageOf) (values : List ValueOf) (budget : ℕ) → NoneOrEnd (run_reply image values budget)
unfolding run_reply
run_ends image values budget =
    let ended : RunOutcome = outcome budget image.final_pc (loaded image values) in inr (end_ends image budget ended.run ended.state)

values_end : (image : ImageOf) (budget : ℕ) (values : Result (List ValueOf) (ℕ × ℕ)) → NoneOrEnd (values_reply image budget values)
values_end image budget (Ok values) = run_ends image values budget
values_end image budget (Err fault) = inl refl

image_ends : (values : List ℕ) (budget : ℕ) (image : Result ImageOf (ℕ × ℕ)) → NoneOrEnd (image_reply values budget image)
image_ends values budget (Ok image) = values_end image budget (values_in image.slots values)
image_ends values budget (Err fault) = inl refl

go_ends : (found : Result BuiltOf BuildFault) (values : List ℕ) (budget : ℕ) → NoneOrEnd (go_reply found values budget)
go_ends (Ok built) values budget = values_end built.image budget (values_in built.image.slots values)
go_ends (Err fault) values budget = inl refl

big_ends : (number procedures : ℕ) → NoneOrEnd (big_reply number procedures)
unfolding big_reply go_on_source
big_ends number procedures = go_ends (source_built (large_of number procedures) (stack_sizes 64 64) 0) (codes "((x 0))") (2 ^ 40)

-- 2. Who leaves none.

abbrev NoMachine : ReplyOf → Type 0
NoMachine reply = reply.state ≡ None

listing_none : (image : Result ImageOf (ℕ × ℕ)) → NoMachine (listing_reply image)
listing_none (Ok image) = refl
listing_none (Err fault) = refl

migrated_none : (name : List ℕ) (image : Result ImageOf (ℕ × ℕ)) → NoMachine (migrated_reply name image)
migrated_none name (Ok image) = refl
migrated_none name (Err fault) = refl

assembled_none : (found : Result ImageOf Breach) → NoMachine (assembled_reply found)
assembled_none (Ok image) = refl
assembled_none (Err breach) = refl

lowered_none : (name : List ℕ) (found : Result SourceOf Breach) → NoMachine (lowered_reply name found)
lowered_none name (Ok source) = refl
lowered_none name (Err breach) = refl

printed_none : (name : List ℕ) (found : Result ImageOf (ℕ × ℕ)) → NoMachine (printed_reply name found)
printed_none name (Err fault) = refl
printed_none name (Ok image) = by_plain (is_plain image)
  where
    by_plain : (plain : Bool) → NoMachine (if plain then written_reply name else verdict_alone verdict.NotPlain)
    by_plain true = refl
    by_plain false = refl

need_none : (found : Result SourceOf Verdict) → NoMachine (need_reply_by found)
unfolding certified_reply
need_none (Err verdict) = refl
need_none (Ok source) = by_bounds (certified (program_of source))
  where
    by_bounds : (found : Result Bounds ℕ) → NoMachine (bounds_reply source found)
    by_bounds (Ok bounds) = refl
    by_bounds (Err procedure) = refl

cert_none : (found : Result SourceOf Verdict) (sizes : StackWords) (text : List ℕ) → NoMachine (cert_reply_by found sizes text)
unfolding certificate_reply
cert_none (Err verdict) sizes text = refl
cert_none (Ok source) sizes text = by_bounds (bounds_in (procedure_names source) text)
  where
    by_bounds : (found : Result Bounds (ℕ × ℕ)) → NoMachine (judged_reply source sizes found)
    by_bounds (Ok bounds) = refl
    by_bounds (Err fault) = refl

judgement_none : {X : Type 0} (found : Result X Verdict) → NoMachine (judgement_reply found)
judgement_none (Ok accepted) = refl
judgement_none (Err verdict) = refl

build_none : (found : Result BuiltOf BuildFault) → NoMachine (build_reply found)
build_none (Ok built) = refl
build_none (Err fault) = refl

quick_none : (found : Result ImageOf BuildFault) → NoMachine (quick_reply found)
quick_none (Ok image) = refl
quick_none (Err fault) = refl

pit_none : (name : List ℕ) (found : Result SystemOf BuildFault) → NoMachine (pit_reply name found)
pit_none name (Ok system) = refl
pit_none name (Err fault) = refl

linked_none : (system : SystemView) → NoMachine (linked_reply system)
linked_none system = by_size (is_large system)
  where
    by_size : (large : Bool) → NoMachine (if large then verdict_alone (verdict.Size Words (placed system).size) else built_reply (linked_image system).size)
    by_size true = refl
    by_size false = refl

checked_none : (found : Result CheckedOf Verdict) → NoMachine (checked_reply found)
checked_none (Ok checked) = linked_none (system_in checked)
checked_none (Err verdict) = refl

piton_end_none : (system : SystemOf) (limit : ℕ) (r : PitonRun) (seen : PitonSeen) → NoMachine (run_end_reply system limit r seen)
piton_end_none system limit piton_run.Halted seen = refl
piton_end_none system limit piton_run.Spent seen = refl
piton_end_none system limit (piton_run.Error kind) seen = refl

piton_run_none : (found : Result CheckedOf Verdict) (limit : ℕ) → NoMachine (checked_run_reply found limit)
unfolding system_run_reply
piton_run_none (Ok checked) limit =
    let ran : Ran = state_run (system_in checked) limit (opening (system_in checked) (system_in checked).stack) in
    piton_end_none checked.system limit ran.run ran.seen
piton_run_none (Err verdict) limit = refl

mean_end_none : (source : SourceOf) (limit : ℕ) (r : MeanRun) (seen : MeanSeen) → NoMachine (mean_end_reply source limit r seen)
mean_end_none source limit mean_run.Ended seen = refl
mean_end_none source limit mean_run.Spent seen = refl

mean_started_none : (source : SourceOf) (limit : ℕ) (found : Result MeanSeen StartFault) → NoMachine (mean_started_reply source limit found)
unfolding mean_run_reply
mean_started_none source limit (Ok from) = let ran : MeanRan = mean_run_of limit from in mean_end_none source limit ran.run ran.seen
mean_started_none source limit (Err fault) = refl

mean_none : (found : Result SourceOf Verdict) (sizes : StackWords) (values : List ℕ) (limit : ℕ) → NoMachine (mean_accepted_reply found sizes values limit)
mean_none (Ok source) sizes values limit = mean_started_none source limit (gypsy_start source sizes values)
mean_none (Err verdict) sizes values limit = refl

script_none : (run : LevelOf) (watches : List Watching) (found : Result (List Line) ScriptFault) → NoMachine (script_reply run watches found)
unfolding lines_reply
script_none run watches (Ok lines) = refl
script_none run watches (Err fault) = refl

debug_none : (found : Result LevelOf Verdict) (watches : List Watching) (text : List ℕ) → NoMachine (session_reply found watches text)
debug_none (Ok run) watches text = script_none run watches (script_of text)
debug_none (Err verdict) watches text = refl

fault_none : (fault : TasksFault) → NoMachine (fault_reply fault)
fault_none tasks_fault.Count = refl
fault_none (tasks_fault.Refused number verdict) = refl
fault_none (tasks_fault.Large words) = refl
fault_none tasks_fault.Memory = refl

turns_none : (turn budget : ℕ) (found : Result (List NewTask) TasksFault) → NoMachine (turns_by turn budget found)
unfolding tasks_reply
turns_none turn budget (Ok tasks) = refl
turns_none turn budget (Err fault) = fault_none fault

-- 3. All commands.

-- there is no machine, or the command runs an image, and this is the end of its run
abbrev OnlyRuns : Option Command → ReplyOf → Type 0
OnlyRuns c reply = (reply.state ≡ None) ⊎ (RunsImage c × IsRunEnd (status_of reply.verdict))

with_run : (c : Command) (reply : ReplyOf) → RunsImage (Some c) → NoneOrEnd reply → OnlyRuns (Some c) reply
with_run c reply runs (inl none) = inl none
with_run c reply runs (inr end) = inr (runs, end)

by_command : (c : Command) (watches : List Watching) (texts : Texts) → OnlyRuns (Some c) (reply_by c watches texts)
unfolding reply_by
by_command (command.Check source) watches texts = inl (judgement_none (accepted_in (text_of role.Source texts)))
by_command (command.Mean source values control temporary limit) watches texts =
    inl (mean_none (accepted_in (text_of role.Source texts)) (stack_sizes control temporary) (text_of role.Values texts) limit)
by_command (command.Pit source control temporary piton) watches texts = inl (pit_none piton (compiled (text_of role.Source texts) control temporary 0))
by_command (command.Build source control temporary image) watches texts = inl (build_none (built (text_of role.Source texts) control temporary 0))
by_command (command.Pcheck piton) watches texts = inl (judgement_none (checked_in (text_of role.Piton texts)))
by_command (command.Prun piton limit) watches texts = inl (piton_run_none (checked_in (text_of role.Piton texts)) limit)
by_command (command.Pbuild piton image) watches texts = inl (checked_none (checked_in (text_of role.Piton texts)))
by_command (command.Run image values budget) watches texts =
    with_run (command.Run image values budget) (reply_by (command.Run image values budget) watches texts) tt
    (image_ends (text_of role.Values texts) budget (read_of (text_of role.Image texts)))
by_command (command.Go source values control temporary budget image) watches texts =
    with_run (command.Go source values control temporary budget image)
    (reply_by (command.Go source values control temporary budget image) watches texts) tt
    (go_ends (built (text_of role.Source texts) control temporary 0) (text_of role.Values texts) budget)
by_command (command.Show image) watches texts = inl (listing_none (read_of (text_of role.Image texts)))
by_command (command.Migrate image output) watches texts = inl (migrated_none output (read_of (text_of role.Image texts)))
by_command (command.Asm assembly image) watches texts = inl (assembled_none (assembly_of (text_of role.Assembly texts)))
by_command (command.Unasm image assembly) watches texts = inl (printed_none assembly (read_of (text_of role.Image texts)))
by_command (command.Need source certificate) watches texts = inl (need_none (accepted_in (text_of role.Source texts)))
by_command (command.Cert source certificate control temporary) watches texts =
    inl (cert_none (accepted_in (text_of role.Source texts)) (stack_sizes control temporary) (text_of role.Certificate texts))
by_command (command.Debug level source values control temporary script) watches texts =
    inl (debug_none (run_in level (text_of role.Source texts) (stack_sizes control temporary) (text_of role.Values texts)) watches (text_of role.Script texts))
by_command (command.Pdebug piton script) watches texts =
    inl (debug_none (piton_run_in (text_of role.Piton texts)) watches (text_of role.Script texts))
by_command (command.Idebug image values script) watches texts =
    inl (debug_none (image_run_in (text_of role.SessionImage texts) (text_of role.Values texts)) watches (text_of role.Script texts))
by_command (command.Turns turn budget control temporary tasks) watches texts =
    inl (turns_none turn budget (tasks_of (stack_sizes control temporary) (texts_of role.TaskSource texts) (texts_of role.TaskValues texts)))
by_command (command.Big number procedures) watches texts =
    with_run (command.Big number procedures) (reply_by (command.Big number procedures) watches texts) tt (big_ends number procedures)
by_command (command.Mini program source) watches texts = inl (lowered_none source (lowering_of (text_of role.Infix texts)))
by_command (command.Quick source control temporary image) watches texts =
    inl (quick_none (quick_built (text_of role.Source texts) control temporary))

-- the reply is the command's to some texts, or `usage` where there is no command
abbrev pub RepliesToSome : Option Command → List Watching → ReplyOf → Type 0
RepliesToSome None watches reply = reply ≡ verdict_alone verdict.Usage
RepliesToSome (Some c) watches reply = (texts : Texts) × (reply ≡ reply_by c watches texts)

of_reply : (c : Option Command) (watches : List Watching) (reply : Reply) → RepliesToSome c watches (reply_of reply) → OnlyRuns c (reply_of reply)
of_reply None watches reply is = inl (ap (λ (r : ReplyOf). r.state) is)
of_reply (Some c) watches reply to = subst (OnlyRuns (Some c)) (sym to.1) (by_command c watches to.0)

-- a reply that is not the end of such a run has no machine
pub only_runs : (c : Option Command) (watches : List Watching) (reply : Reply) → RepliesToSome c watches (reply_of reply)
    → ¬ (RunsImage c × IsRunEnd (status_of reply.verdict))
    → option_map (λ (m : MachineOf). m.state) reply.machine ≡ None
only_runs c watches reply is none = ⊎_elim (λ (state : (reply_of reply).state ≡ None). state) (λ run. absurd (none run)) (of_reply c watches reply is)
