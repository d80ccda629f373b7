-- Refused sizes are those of commands that take sizes.
use Rattle.std.proofs.Common.{◌≡◌, inl, inr, ℕ, List, Bool, true, false, [], Option, Some, None, Result, Ok, Err, IfErr, refl, sym, ap, ◌∙◌}
use Rattle.std.specs.Prelude.{if◌then◌else◌, IsSomeAnd}
use Rattle.fm_machine.{specs.Outcome.{RunOutcome, outcome}, specs.State.Fm, specs.declared.processor.Run.Run}
use Rattle.fm_machine.specs.declared.processor.Run.TheVariants as run
use Rattle.fm_image.{specs.Image.ImageOf, specs.Reading.read_of}
use Rattle.fm_asm.{specs.Assembling.assembly_of, specs.Printing.is_plain}
use Rattle.space_cert.{specs.Certified.certified, specs.CertText.bounds_in, specs.Covers.Bounds}
use Rattle.fm_loader.{specs.Loaded.loaded, specs.Values.values_in}
use Rattle.stack_text.{specs.Values.ValueOf, specs.declared.breach.Breach.Breach, specs.Breaches.least}
use Rattle.piton_syntax.{specs.declared.fault.PitonFault.PitonFault, specs.PitonReading.piton_in, specs.Systems.SystemOf}
use Rattle.piton_syntax.specs.declared.fault.PitonFault.TheVariants as fault
use Rattle.piton_check.{specs.Violations.violations, specs.PitonChecking.CheckedOf}
use Rattle.gypsy_syntax.{specs.declared.fault.GypsyFault.GypsyFault, specs.GypsyReading.gypsy_in, specs.Resolved.{procedure_names, program_of}}
use Rattle.gypsy_syntax.specs.Sources.{SourceOf}
use Rattle.gypsy_syntax.specs.declared.fault.GypsyFault.TheVariants as gypsy
use Rattle.gypsy_check.specs.Rules.{violations as gypsy_violations}
use Rattle.piton_semantics.{specs.declared.stepped.PitonRun.PitonRun, specs.Fits.system_in, specs.StateView.{Ran, state_run, opening, Seen as PitonSeen}}
use Rattle.piton_semantics.specs.declared.error_kind.ErrorKind.{ErrorKind}
use Rattle.piton_semantics.specs.declared.stepped.PitonRun.TheVariants as piton_run
use Rattle.gypsy_space.specs.Needs.{StackSizes as StackWords, stack_sizes}
use Rattle.debug_script.{specs.declared.fault.ScriptFault.ScriptFault, specs.declared.reading.Line.Line, specs.Scripts.script_of}
use Rattle.debug_script.specs.declared.fault.ScriptFault.TheVariants as script_fault
use Rattle.level_debuggers.{specs.declared.script_end.ScriptEnd.ScriptEnd, specs.Levels.{LevelOf, program_named}, specs.Tallies.Watching}
use Rattle.level_debuggers.specs.Transcripts.{Followed, followed}
use Rattle.level_debuggers.specs.declared.script_end.ScriptEnd.TheVariants as script_end
use Rattle.stack_build.specs.Build.{accepted_source, reading_fault, accepted_unless, accepted_by}
use Rattle.command_line.{specs.declared.command.Command.Command, specs.declared.status.Status.TheVariants.{Size, Usage}, specs.Gathered.{Texts, text_of}}
use Rattle.command_line.specs.CommandFiles.{output_of}
use Rattle.command_line.specs.declared.command.Command.TheVariants as command
use Rattle.command_line.specs.declared.role.Role.TheVariants as role
use Rattle.command_replies.{specs.declared.reply.Reply.Reply, specs.declared.reply.Verdict.Verdict, specs.Replies.{ReplyOf, reply_of, status_of, verdict_alone}}
use Rattle.command_replies.{specs.Replies.{judgement_reply, written_reply}, specs.Commands.Run.{end_reply, run_reply, values_reply, image_reply}}
use Rattle.command_replies.{specs.Commands.Show.listing_reply, specs.Commands.Migrate.migrated_reply, specs.Commands.Asm.assembled_reply}
use Rattle.command_replies.{specs.Commands.Mini.{lowering_of, lowered_reply}, specs.Commands.Unasm.printed_reply, specs.Commands.Prun.run_end_reply}
use Rattle.command_replies.{specs.Commands.Prun.{checked_run_reply, system_run_reply}, specs.Commands.PitonText.{piton_verdict, checked_unless, checked_by}}
use Rattle.command_replies.specs.Commands.PitonText.{checked_in}
use Rattle.command_replies.specs.declared.reply.Verdict.TheVariants as verdict
use Rattle.stack_commands.{specs.Prepared.reply_by, specs.Commands.Need.{bounds_reply, certified_reply, need_reply_by}, specs.Commands.Cert.judged_reply}
use Rattle.stack_commands.{specs.Commands.Cert.{certificate_reply, cert_reply_by}, specs.Commands.SourceText.{build_verdict, unless_refused, accepted_in}}
use Rattle.stack_commands.specs.Commands.Debug.{end_verdict, error_verdict, lines_reply, script_reply, session_on, session_reply}
use Rattle.stack_commands.specs.Commands.Idebug.{read_run, image_run_in, loaded_run}
use Rattle.cli_stack.{specs.Causes.HasSizes, proofs.MachineLaws.RepliesToSome}

abbrev is_size : Verdict → Bool
is_size (verdict.Size of need) = true
is_size v = false

-- 1. Who never refuses a size.

end_no_size : (image : ImageOf) (budget : ℕ) (r : Run) (s : Fm) → is_size (end_reply image budget r s).verdict ≡ false
end_no_size image budget (run.Ended count) s = refl
end_no_size image budget run.Spent s = refl
end_no_size image budget (run.Outside address count) s = refl

run_no_size : (image : ImageOf) (values : List ValueOf) (budget : ℕ) → is_size (run_reply image values budget).verdict ≡ false
unfolding run_reply
run_no_size image values budget =
    let ended : RunOutcome = outcome budget image.final_pc (loaded image values) in end_no_size image budget ended.run ended.state

values_no_size : (image : ImageOf) (budget : ℕ) (values : Result (List ValueOf) (ℕ × ℕ)) → is_size (values_reply image budget values).verdict ≡ false
values_no_size image budget (Ok values) = run_no_size image values budget
values_no_size image budget (Err fault) = refl

image_no_size : (values : List ℕ) (budget : ℕ) (image : Result ImageOf (ℕ × ℕ)) → is_size (image_reply values budget image).verdict ≡ false
image_no_size values budget (Ok image) = values_no_size image budget (values_in image.slots values)
image_no_size values budget (Err fault) = refl

listing_no_size : (image : Result ImageOf (ℕ × ℕ)) → is_size (listing_reply image).verdict ≡ false
listing_no_size (Ok image) = refl
listing_no_size (Err fault) = refl

migrated_no_size : (name : List ℕ) (image : Result ImageOf (ℕ × ℕ)) → is_size (migrated_reply name image).verdict ≡ false
migrated_no_size name (Ok image) = refl
migrated_no_size name (Err fault) = refl

assembled_no_size : (found : Result ImageOf Breach) → is_size (assembled_reply found).verdict ≡ false
assembled_no_size (Ok image) = refl
assembled_no_size (Err breach) = refl

lowered_no_size : (name : List ℕ) (found : Result SourceOf Breach) → is_size (lowered_reply name found).verdict ≡ false
lowered_no_size name (Ok source) = refl
lowered_no_size name (Err breach) = refl

printed_no_size : (name : List ℕ) (found : Result ImageOf (ℕ × ℕ)) → is_size (printed_reply name found).verdict ≡ false
printed_no_size name (Err fault) = refl
printed_no_size name (Ok image) = by_plain (is_plain image)
  where
    by_plain : (plain : Bool) → is_size (if plain then written_reply name else verdict_alone verdict.NotPlain).verdict ≡ false
    by_plain true = refl
    by_plain false = refl

piton_no_size : (fault : PitonFault) → is_size (piton_verdict fault) ≡ false
piton_no_size (fault.Text rule place) = refl
piton_no_size (fault.Form rule place) = refl
piton_no_size fault.Memory = refl

-- a refused Piton text is refused by a rule
refused_no_size : (text : List ℕ) → IfErr (checked_in text) (λ v. is_size v ≡ false)
unfolding checked_in
refused_no_size text = by_reading (piton_in text)
  where
    by_breach : (system : SystemOf) (breach : Option Breach) → IfErr (checked_unless system breach) (λ v. is_size v ≡ false)
    by_breach system None = tt
    by_breach system (Some breach) = refl

    by_reading : (found : Result SystemOf PitonFault) → IfErr (checked_by found) (λ v. is_size v ≡ false)
    by_reading (Ok system) = by_breach system (least (violations system))
    by_reading (Err fault) = piton_no_size fault

reading_no_size : (fault : GypsyFault) → is_size (build_verdict (reading_fault fault)) ≡ false
reading_no_size (gypsy.Text rule place) = refl
reading_no_size (gypsy.Form rule place) = refl
reading_no_size gypsy.Memory = refl

-- so is a refused source
source_no_size : (text : List ℕ) → IfErr (accepted_in text) (λ v. is_size v ≡ false)
unfolding accepted_in accepted_source
source_no_size text = by_reading (gypsy_in text)
  where
    by_breach : (source : SourceOf) (breach : Option Breach) → IfErr (unless_refused (accepted_unless source breach)) (λ v. is_size v ≡ false)
    by_breach source None = tt
    by_breach source (Some breach) = refl

    by_reading : (found : Result SourceOf GypsyFault) → IfErr (unless_refused (accepted_by found)) (λ v. is_size v ≡ false)
    by_reading (Ok source) = by_breach source (least (gypsy_violations source))
    by_reading (Err fault) = reading_no_size fault

need_no_size : (found : Result SourceOf Verdict) → IfErr found (λ v. is_size v ≡ false) → is_size (need_reply_by found).verdict ≡ false
unfolding certified_reply
need_no_size (Err verdict) none = none
need_no_size (Ok source) none = by_bounds (certified (program_of source))
  where
    by_bounds : (found : Result Bounds ℕ) → is_size (bounds_reply source found).verdict ≡ false
    by_bounds (Ok bounds) = refl
    by_bounds (Err procedure) = refl

cert_no_size : (found : Result SourceOf Verdict) (sizes : StackWords) (text : List ℕ) → IfErr found (λ v. is_size v ≡ false)
    → is_size (cert_reply_by found sizes text).verdict ≡ false
unfolding certificate_reply
cert_no_size (Err verdict) sizes text none = none
cert_no_size (Ok source) sizes text none = by_bounds (bounds_in (procedure_names source) text)
  where
    by_bounds : (found : Result Bounds (ℕ × ℕ)) → is_size (judged_reply source sizes found).verdict ≡ false
    by_bounds (Ok bounds) = refl
    by_bounds (Err fault) = refl

judgement_no_size : {X : Type 0} (found : Result X Verdict) → IfErr found (λ v. is_size v ≡ false) → is_size (judgement_reply found).verdict ≡ false
judgement_no_size (Ok checked) none = refl
judgement_no_size (Err verdict) none = none

piton_run_no_size : (system : SystemOf) (limit : ℕ) (r : PitonRun) (seen : PitonSeen) → is_size (run_end_reply system limit r seen).verdict ≡ false
piton_run_no_size system limit piton_run.Halted seen = refl
piton_run_no_size system limit piton_run.Spent seen = refl
piton_run_no_size system limit (piton_run.Error kind) seen = refl

checked_run_no_size : (found : Result CheckedOf Verdict) (limit : ℕ) → IfErr found (λ v. is_size v ≡ false)
    → is_size (checked_run_reply found limit).verdict ≡ false
unfolding system_run_reply
checked_run_no_size (Ok checked) limit none =
    let ran : Ran = state_run (system_in checked) limit (opening (system_in checked) (system_in checked).stack) in
    piton_run_no_size checked.system limit ran.run ran.seen
checked_run_no_size (Err verdict) limit none = none

error_no_size : (kind : ErrorKind) (name : Option (List ℕ)) (place after : ℕ) → is_size (error_verdict kind name place after) ≡ false
error_no_size kind None place after = refl
error_no_size kind (Some name) place after = refl

script_end_no_size : (run : LevelOf) (e : ScriptEnd) → is_size (end_verdict run e) ≡ false
script_end_no_size run script_end.Done = refl
script_end_no_size run (script_end.Error kind program place after) = error_no_size kind (program_named run program) place after
script_end_no_size run (script_end.Outside address after) = refl
script_end_no_size run (script_end.NoneWaits line) = refl
script_end_no_size run (script_end.NoneAttached line) = refl
script_end_no_size run (script_end.OtherLevel line) = refl

script_no_size : (run : LevelOf) (watches : List Watching) (found : Result (List Line) ScriptFault) → is_size (script_reply run watches found).verdict ≡ false
unfolding lines_reply
script_no_size run watches (Ok lines) =
    let made : Followed = followed [] lines (session_on run watches) in script_end_no_size made.session.level made.end
script_no_size run watches (Err (script_fault.Refused rule line)) = refl
script_no_size run watches (Err script_fault.Memory) = refl

-- a session refuses no size, only its start may
session_no_size : (found : Result LevelOf Verdict) (watches : List Watching) (script : List ℕ) → IfErr found (λ v. is_size v ≡ false)
    → is_size (session_reply found watches script).verdict ≡ false
session_no_size (Ok run) watches script none = script_no_size run watches (script_of script)
session_no_size (Err verdict) watches script none = none

read_run_no_size : (values : List ℕ) (image : Result ImageOf (ℕ × ℕ)) → IfErr (read_run values image) (λ v. is_size v ≡ false)
read_run_no_size values (Err fault) = refl
read_run_no_size values (Ok image) = by_values (values_in image.slots values)
  where
    by_values : (found : Result (List ValueOf) (ℕ × ℕ)) → IfErr (loaded_run image found) (λ v. is_size v ≡ false)
    by_values (Ok values) = tt
    by_values (Err fault) = refl

-- 2. All commands.

abbrev Sizes : Command → ReplyOf → Type 0
Sizes c reply = is_size reply.verdict ≡ true → HasSizes c

no_sizes : (c : Command) (reply : ReplyOf) → is_size reply.verdict ≡ false → Sizes c reply
no_sizes c reply none size = absurd (let e : false ≡ true = sym none ∙ size in cc)

sizes_by : (c : Command) (watches : List Watching) (texts : Texts) → Sizes c (reply_by c watches texts)
unfolding reply_by output_of
sizes_by (command.Check source) watches texts = no_sizes (command.Check source) (reply_by (command.Check source) watches texts)
    (judgement_no_size (accepted_in (text_of role.Source texts)) (source_no_size (text_of role.Source texts)))
sizes_by (command.Mean source values control temporary limit) watches texts = λ size. inl refl
sizes_by (command.Pit source control temporary piton) watches texts = λ size. inl refl
sizes_by (command.Build source control temporary image) watches texts = λ size. inl refl
sizes_by (command.Pcheck piton) watches texts = no_sizes (command.Pcheck piton) (reply_by (command.Pcheck piton) watches texts)
    (judgement_no_size (checked_in (text_of role.Piton texts)) (refused_no_size (text_of role.Piton texts)))
sizes_by (command.Prun piton limit) watches texts = no_sizes (command.Prun piton limit) (reply_by (command.Prun piton limit) watches texts)
    (checked_run_no_size (checked_in (text_of role.Piton texts)) limit (refused_no_size (text_of role.Piton texts)))
sizes_by (command.Pbuild piton image) watches texts = λ size. inr (inl (image, refl))
sizes_by (command.Run image values budget) watches texts =
    no_sizes (command.Run image values budget) (reply_by (command.Run image values budget) watches texts)
    (image_no_size (text_of role.Values texts) budget (read_of (text_of role.Image texts)))
sizes_by (command.Go source values control temporary budget image) watches texts = λ size. inl refl
sizes_by (command.Show image) watches texts =
    no_sizes (command.Show image) (reply_by (command.Show image) watches texts) (listing_no_size (read_of (text_of role.Image texts)))
sizes_by (command.Migrate image output) watches texts =
    no_sizes (command.Migrate image output) (reply_by (command.Migrate image output) watches texts)
    (migrated_no_size output (read_of (text_of role.Image texts)))
sizes_by (command.Asm assembly image) watches texts = no_sizes (command.Asm assembly image) (reply_by (command.Asm assembly image) watches texts)
    (assembled_no_size (assembly_of (text_of role.Assembly texts)))
sizes_by (command.Unasm image assembly) watches texts = no_sizes (command.Unasm image assembly) (reply_by (command.Unasm image assembly) watches texts)
    (printed_no_size assembly (read_of (text_of role.Image texts)))
sizes_by (command.Need source certificate) watches texts =
    no_sizes (command.Need source certificate) (reply_by (command.Need source certificate) watches texts)
    (need_no_size (accepted_in (text_of role.Source texts)) (source_no_size (text_of role.Source texts)))
sizes_by (command.Cert source certificate control temporary) watches texts =
    no_sizes (command.Cert source certificate control temporary) (reply_by (command.Cert source certificate control temporary) watches texts)
    (cert_no_size (accepted_in (text_of role.Source texts)) (stack_sizes control temporary) (text_of role.Certificate texts)
    (source_no_size (text_of role.Source texts)))
sizes_by (command.Debug level source values control temporary script) watches texts = λ size. inl refl
sizes_by (command.Pdebug piton script) watches texts = λ size. inr (inr (piton, script, refl))
sizes_by (command.Idebug image values script) watches texts =
    no_sizes (command.Idebug image values script) (reply_by (command.Idebug image values script) watches texts)
    (session_no_size (image_run_in (text_of role.SessionImage texts) (text_of role.Values texts)) watches (text_of role.Script texts)
    (read_run_no_size (text_of role.Values texts) (read_of (text_of role.SessionImage texts))))
sizes_by (command.Turns turn budget control temporary tasks) watches texts = λ size. inl refl
sizes_by (command.Big number procedures) watches texts = λ size. inl refl
sizes_by (command.Mini program source) watches texts =
    no_sizes (command.Mini program source) (reply_by (command.Mini program source) watches texts)
    (lowered_no_size source (lowering_of (text_of role.Infix texts)))
sizes_by (command.Quick source control temporary image) watches texts = λ size. inl refl

-- where a size is refused, the command has sizes
pub has_sizes : (c : Option Command) (watches : List Watching) (reply : Reply) → RepliesToSome c watches (reply_of reply)
    → status_of reply.verdict ≡ Size → IsSomeAnd c HasSizes
has_sizes None watches reply is size =
    let e : Usage ≡ Size = ap (λ (r : ReplyOf). status_of r.verdict) (sym is) ∙ size in
    absurd cc
has_sizes (Some c) watches reply to size =
    sizes_by c watches to.0 (is_size_by (reply_by c watches to.0).verdict (ap (λ (r : ReplyOf). status_of r.verdict) (sym to.1) ∙ size))
  where
    is_size_by : (v : Verdict) → status_of v ≡ Size → is_size v ≡ true
    is_size_by (verdict.Size of need) h = refl
    is_size_by verdict.Done h = absurd cc
    is_size_by v h = absurd cc
