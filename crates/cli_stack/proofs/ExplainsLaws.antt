-- What a session says where the source's step machine has come to a state, and to `words` and `until`.
use Rattle.std.proofs.Common.{◌≡◌, ◌≤◌, ℕ, zero, suc, List, [], ◌∷◌, ◌++◌, Option, Some, None, Result, Ok, Err, length, refl, sym, ap, ◌∙◌, subst, arith}
use Rattle.std.{proofs.Common.{append_assoc, inl, inr}, specs.Prelude.{Bool, true, if◌then◌else◌, ◌^◌, IsTrue}, proofs.lemmas.Bool.eq-eqb}
use Rattle.stack_text.{specs.Results.◌>>=◌, specs.Values.ValueOf}
use Rattle.stack_shelf.specs.Files.{Files}
use Rattle.fm_image.specs.Image.{ImageOf}
use Rattle.fm_loader.{specs.Loaded.loaded, specs.Values.values_in}
use Rattle.fm_machine.{specs.Run.{Avoids, IsFirst, pc_of}, specs.Step.fm_step}
use Rattle.fm_machine.specs.State as fm
use Rattle.display_maps.{specs.Reading.{ReadingOf, reading}, specs.ReadingAt.reading_at, specs.Report.lines_of_reading}
use Rattle.gypsy_syntax.{specs.Resolved.program_of, specs.Sources.SourceOf}
use Rattle.gypsy_check.specs.Accepted.{IsAccepted}
use Rattle.gypsy_space.{specs.Needs.{StackSizes, stack_sizes}, specs.Costs.Tally}
use Rattle.gypsy_semantics.{specs.Calls.CurrentCondition, specs.Machine.{State, Move, Next, Ended}, specs.Views.Moments.moment_from, specs.Views.RunView.Seen}
use Rattle.gypsy_semantics.specs.Views.RunView.{spent_at}
use Rattle.stack_build.{specs.Build.{BuiltOf, BuildsText, built, source_built, accepted_source}, specs.declared.fault.BuildFault.BuildFault}
use Rattle.stack_build.{specs.Image.places_fit, specs.Implements.meaning_shown, specs.ComesTo.ComesTo, specs.Joined.{BuiltImplements, BuiltTakesValues}}
use Rattle.stack_build.{specs.Moments.{ArrivesAt, ArrivesAtEnd, KeepsMoments}, specs.Starts.{gypsy_start, system_start, image_start, built_start}}
use Rattle.stack_build.{specs.declared.start_fault.StartFault.StartFault, proofs.KnownLaws.source_is_accepted}
use Rattle.debug_script.{specs.declared.fault.ScriptFault.ScriptFault, specs.declared.command.Place.Place, specs.declared.reading.Line.Line}
use Rattle.debug_script.specs.Scripts.{script_of}
use Rattle.debug_script.specs.declared.command.Place.TheVariants as place
use Rattle.level_debuggers.{specs.Arrivals.IsFirstArrival, specs.GypsyLevels.{GypsyLevelOf, gypsy_next, gypsy_up}, specs.Levels.{LevelOf, Fm, has_places}}
use Rattle.level_debuggers.{specs.Levels.{lifted, next_of, program_named, up_text}, specs.FmLevels.{FmLevelOf, fm_after, word_lines}}
use Rattle.level_debuggers.{specs.RunWalks.{MachinesArrive, MachinesWalk, WalksTo}, specs.ScriptSteps.{ArrivalsAreSaid, AskForSteps, GoesOn, SaysAfter}}
use Rattle.level_debuggers.specs.ScriptSteps.{StepsAreSaid, TextStays, UpIsSaid, WordsAreSaid, all_asked, steps_of_lines, stepped_lines, until_line, up_line}
use Rattle.level_debuggers.{specs.ScriptSteps.line_of_words, specs.Steps.{Over, Stops, Makes}, specs.Texts.mark_text}
use Rattle.level_debuggers.{specs.declared.script_end.ScriptEnd.ScriptEnd, specs.Tallies.Watching, specs.Transcripts.{Followed, arrival_text, followed}}
use Rattle.level_debuggers.specs.Walks.{SessionOf, stepped, walk, walk_on}
use Rattle.level_debuggers.specs.Levels as levels
use Rattle.level_debuggers.specs.Steps as step
use Rattle.level_debuggers.specs.declared.arrival.Arrival.TheVariants as arrival
use Rattle.level_debuggers.specs.declared.script_end.ScriptEnd.TheVariants as end
use Rattle.cli_stack.{proofs.EndLaws.walk_past, specs.SessionMoments.{BothSay, BuiltSaysEnds, BuiltSaysMoments, image_run, state_text, steps_at, system_run}}
use Rattle.cli_stack.{specs.Answer.{answer_on, answer_to}, specs.FilesAndSizes.IsReadable, specs.Decides.IsReadyToRun, specs.Explains.{Asks, BeginsWith}}
use Rattle.cli_stack.{specs.Explains.{Explains, ExplainsRun, LeadsToEnd, SaysTo, StandsAfter, steps_to}, proofs.DecidesLaws.ready_runs}
use Rattle.cli_stack.proofs.TellsLaws.{is_there}
use Rattle.command_line.{specs.declared.command.Command.Command, specs.declared.early_end.EarlyEnd.EarlyEnd, specs.declared.role.Role.Role}
use Rattle.command_line.{specs.declared.role.Role.TheVariants.{Source, Values, Script}, specs.declared.words.reader.Level.Level}
use Rattle.command_line.{specs.declared.words.reader.Level.TheVariants.{Gypsy, Piton, Fm9001}, specs.CommandFiles.inputs_of, specs.Gathered.{Texts, gathered}}
use Rattle.command_line.specs.declared.command.Command.TheVariants as command
use Rattle.command_replies.{specs.declared.reply.Verdict.Verdict, specs.Replies.{ReplyOf, reply_text, verdict_line}}
use Rattle.stack_commands.{specs.Commands.SourceText.accepted_in, specs.Commands.Debug.{end_verdict, error_verdict, lines_reply, or_verdict, run_at, run_in}}
use Rattle.stack_commands.{specs.Commands.Debug.{script_reply, session_on, session_reply}, specs.Prepared.reply_by}
use Rattle.command_replies.specs.declared.reply.Verdict.TheVariants as verdict
use Rattle.piton_semantics.specs.declared.error_kind.ErrorKind.{ErrorKind}

-- 1. The run that the session has.

-- what is built of a text is built of its source
pub of_source : (text : List ℕ) (ctrl temp : ℕ) (source : SourceOf) (found : BuiltOf) → accepted_source text ≡ Ok source → built text ctrl temp 0 ≡ Ok found
    → source_built source (stack_sizes ctrl temp) 0 ≡ Ok found
unfolding built
of_source text ctrl temp source found read is =
    sym (ap (λ (r : Result SourceOf BuildFault). r >>= λ s. source_built s (stack_sizes ctrl temp) 0) read) ∙ is

module _ (source : SourceOf) (sizes : StackSizes) (found : BuiltOf) (values_text : List ℕ) (values : List ValueOf)
    (made : source_built source sizes 0 ≡ Ok found) (gives : values_in found.image.slots values_text ≡ Ok values) where
  piton_run : run_at Piton source sizes values_text ≡ Ok (system_run source found.piton found.image values)
  unfolding system_start built_start
  piton_run = rw (made, gives) refl

  machine_run : run_at Fm9001 source sizes values_text ≡ Ok (image_run found.image values)
  unfolding image_start built_start
  machine_run = rw (made, gives) refl

run_found : (level : Level) (text : List ℕ) (source : SourceOf) (sizes : StackSizes) (values_text : List ℕ) (run : LevelOf)
    → accepted_source text ≡ Ok source → run_at level source sizes values_text ≡ Ok run
    → run_in level text sizes values_text ≡ Ok run
unfolding run_in accepted_in
run_found level text source sizes values_text run read is = rw (read, is) refl

-- 2. What it says.

error_not_done : (kind : ErrorKind) (name : Option (List ℕ)) (place after : ℕ) → error_verdict kind name place after ≡ verdict.Done → ⊥
error_not_done kind None place after h = cc
error_not_done kind (Some name) place after h = cc

-- where all went well, the script ended so
done_ended : (run : LevelOf) (e : ScriptEnd) → end_verdict run e ≡ verdict.Done → e ≡ end.Done
done_ended run end.Done h = refl
done_ended run (end.Error kind program place after) h = absurd (error_not_done kind (program_named run program) place after h)
done_ended run (end.Outside address after) h = absurd cc
done_ended run (end.NoneWaits line) h = absurd cc
done_ended run (end.NoneAttached line) h = absurd cc
done_ended run (end.OtherLevel line) h = absurd cc

pub all_done : (run : LevelOf) (watches : List Watching) (lines : List Line) → (lines_reply run watches lines).verdict ≡ verdict.Done
    → (followed [] lines (session_on run watches)).end ≡ end.Done
unfolding lines_reply
all_done run watches lines done =
    let made : Followed = followed [] lines (session_on run watches) in
    done_ended made.session.level made.end done

-- Behind lines that were carried out, something is told to a further one.
module _ (stays : TextStays) (run : LevelOf) (watches : List Watching) (script : List ℕ) (before : List Line) (line : Line) (after : List Line)
    (said told : List ℕ) (left : SessionOf) (says : (lines_reply run watches before).said ≡ said) (is : script_of script ≡ Ok (before ++ line ∷ after))
    (tells :
    followed [] (before ++ line ∷ after) (session_on run watches)
    ≡ followed ((followed [] before (session_on run watches)).text ++ told) after left) where
  script_says : BeginsWith (script_reply run watches (script_of script)).said (said ++ told)
  unfolding lines_reply
  script_says =
      let made : Followed = followed [] before (session_on run watches) in
      let rest = stays (made.text ++ told) after left in (
        rest.0,
        ap (λ (r : Result (List Line) ScriptFault). (script_reply run watches r).said) is
            ∙ ap (λ (f : Followed). f.text) tells ∙ rest.1 ∙ ap (λ (t : List ℕ). t ++ told ++ rest.0) says,
      )

  pub reply_says : BeginsWith (reply_text (script_reply run watches (script_of script))) (said ++ told)
  reply_says =
      let reply : ReplyOf = script_reply run watches (script_of script) in
      let begins = script_says in (
        begins.0 ++ verdict_line reply.verdict,
        ap (λ (t : List ℕ). t ++ verdict_line reply.verdict) begins.1 ∙ append_assoc (said ++ told) begins.0 (verdict_line reply.verdict),
      )

-- lines that ask for steps are carried out
pub steps_said : StepsAreSaid → (run : LevelOf) (watches : List Watching) (lines : List Line) → AskForSteps lines → GoesOn (all_asked lines) run
    → ((lines_reply run watches lines).verdict ≡ verdict.Done) × ((lines_reply run watches lines).said ≡ stepped_lines lines)
unfolding lines_reply
steps_said steps run watches lines asks goes =
    let made : Followed = followed [] lines (session_on run watches) in
    let h = steps [] lines (session_on run watches) asks goes in
    (ap (end_verdict made.session.level) h.0, h.1)

-- 3. Where a run stands.

module _ (run : FmLevelOf) (there : pc_of run.state ≡ run.image.final_pc) where
  pub is_over_there : next_of (Fm run) ≡ Over
  is_over_there = ap (λ (b : Bool). lifted Fm (if b then Over else fm_after run (fm_step run.state))) (eq-eqb (pc_of run.state) run.image.final_pc there)

  said_there : up_text (Fm run) ≡ lines_of_reading run.image (reading run.image run.state)
  said_there =
      ap (λ (b : Bool). if b then lines_of_reading run.image (reading run.image run.state) else mark_text (reading_at run.image run.state))
      (eq-eqb (pc_of run.state) run.image.final_pc there)

-- a walk of so many steps stands where the processor stands after as many instructions
pub walk_stands : MachinesWalk → (image : ImageOf) (values : List ValueOf) (n : ℕ) (state : fm.Fm) → StandsAfter n (loaded image values) image.final_pc state
    → (walk n (image_run image values)).level ≡ Fm record { image = image; state = state }
walk_stands walks image values n state stands =
    let run : FmLevelOf = record { image = image; state = loaded image values } in
    let there : FmLevelOf = record { image = image; state = state } in
    let w : WalksTo stands.made (Fm run) (Fm there) = walks stands.made run state stands.reached stands.before in
    elim stands.last [
      | inl same ↦ ap (λ (k : ℕ). (walk k (Fm run)).level) (sym same) ∙ w.leads
      | inr ended ↦ walk_past stands.made n (Fm run) (Fm there) stands.within w.whole w.leads (is_over_there there ended)
    ]

end_said : MachinesWalk → (image : ImageOf) (values : List ValueOf) (count n : ℕ) (read : ReadingOf) → ComesTo image values count read → count ≤ n
    → up_text (walk n (image_run image values)).level ≡ lines_of_reading image read
end_said walks image values count n read comes le =
    let there : FmLevelOf = record { image = image; state = comes.state } in
    let stands : StandsAfter n (loaded image values) image.final_pc comes.state
    = record { made = count; within = le; reached = comes.first.reached; before = comes.first.before; last = inr comes.first.there } in
    ap up_text (walk_stands walks image values n comes.state stands) ∙ said_there there comes.first.there ∙ ap (lines_of_reading image) comes.reads

-- 4. The level of the source.

-- a run of the source's own steps
abbrev IsOfSource : LevelOf → Type 0
IsOfSource (levels.Gypsy r) = Unit {0}
IsOfSource level = ⊥

source_says : (n : ℕ) (r : GypsyLevelOf) → up_text (walk n (levels.Gypsy r)).level ≡ gypsy_up
unfolding walk
source_says zero r = refl
source_says (suc n) r = by_next (gypsy_next r) (λ next. source_says n next)
  where
    by_next : (x : step.Next GypsyLevelOf) → ((next : GypsyLevelOf) → up_text (walk n (levels.Gypsy next)).level ≡ gypsy_up)
        → up_text (walk_on (levels.Gypsy r) (walk n) (lifted levels.Gypsy x)).level ≡ gypsy_up
    by_next (Makes event next) go = go next
    by_next Over go = refl
    by_next (Stops stop) go = refl

of_source_says : (n : ℕ) (run : LevelOf) → IsOfSource run → up_text (walk n run).level ≡ gypsy_up
of_source_says n (levels.Gypsy r) is = source_says n r
of_source_says n (levels.Piton r) is = absurd is
of_source_says n (Fm r) is = absurd is

source_begins : (text : List ℕ) (sizes : StackSizes) (values_text : List ℕ) (run : LevelOf) → run_in Gypsy text sizes values_text ≡ Ok run → IsOfSource run
unfolding run_in
source_begins text sizes values_text run begins = by_source (accepted_in text) begins
  where
    by_start : (source : SourceOf) (start : Result Seen StartFault) → or_verdict
        (start >>= λ seen. Ok (levels.Gypsy (record { source = source; seen = seen }))) ≡ Ok run → IsOfSource run
    by_start source (Err fault) begins = absurd cc
    by_start source (Ok seen) begins =
        let both : Ok (levels.Gypsy (record { source = source; seen = seen })) ≡ Ok run = begins in
        let same : levels.Gypsy (record { source = source; seen = seen }) ≡ run = cc in
        subst IsOfSource same tt

    by_source : (found : Result SourceOf Verdict) → (found >>= λ source. or_verdict (run_at Gypsy source sizes values_text)) ≡ Ok run → IsOfSource run
    by_source (Err refusal) begins = absurd cc
    by_source (Ok source) begins = by_start source (gypsy_start source sizes values_text) begins

top_says : (level : Level) → level ≡ Gypsy → (text : List ℕ) (sizes : StackSizes) (values_text : List ℕ) (run : LevelOf) (n : ℕ)
    → run_in level text sizes values_text ≡ Ok run → up_text (walk n run).level ≡ gypsy_up
top_says Gypsy at text sizes values_text run n begins = of_source_says n run (source_begins text sizes values_text run begins)
top_says Piton at text sizes values_text run n begins = absurd cc
top_says Fm9001 at text sizes values_text run n begins = absurd cc

-- 5. The command.

pub three_there : (files : Files) (first second third : Role × List ℕ) (text other last : List ℕ) → IsReadable files first.0 first.1 text
    → IsReadable files second.0 second.1 other → IsReadable files third.0 third.1 last
    → gathered files (first ∷ second ∷ third ∷ []) ≡ Ok ((first.0, text) ∷ (second.0, other) ∷ (third.0, last) ∷ [])
three_there files first second third text other last there there' there'' =
    rw (is_there files first text there, is_there files second other there', is_there files third last there'') refl

-- the run that a session has at a level, and that it says the state there after as many steps as are asked for
record Begins (level : Level) (source : SourceOf) (sizes : StackSizes) (values_text : List ℕ) (n : ℕ) (said : List ℕ) : Type 0 where
  pub run : LevelOf
  pub is : run_at level source sizes values_text ≡ Ok run
  pub says : SaysAfter n run said

some_same : (m n : ℕ) → Some m ≡ Some n → m ≡ n
some_same m n e = cc

begins : (level : Level) (source : SourceOf) (sizes : StackSizes) (found : BuiltOf) (values_text : List ℕ) (values : List ValueOf) (g : State) (n : ℕ)
    → source_built source sizes 0 ≡ Ok found
    → values_in found.image.slots values_text ≡ Ok values → BothSay source found values g → steps_to level g ≡ Some n
    → Begins level source sizes values_text n (state_text source g)
begins Gypsy source sizes found values_text values g n made gives both is = absurd cc
begins Piton source sizes found values_text values g n made gives both is = record {
  run = system_run source found.piton found.image values;
  is = piton_run source sizes found values_text values made gives;
  says = subst (λ (m : ℕ). SaysAfter m (system_run source found.piton found.image values) (state_text source g)) (some_same (steps_at g) n is) both.system;
}
begins Fm9001 source sizes found values_text values g n made gives both is = record {
  run = image_run found.image values;
  is = machine_run source sizes found values_text values made gives;
  says = subst (λ (m : ℕ). SaysAfter m (image_run found.image values) (state_text source g)) (some_same (spent_at g) n is) both.machine;
}

-- what a run says at its end
module _ (implement : BuiltImplements) (take : BuiltTakesValues) (ends : BuiltSaysEnds) (walks : MachinesWalk) (source_name values_name : List ℕ)
    (control temporary : ℕ) (files : Files)
    (is : IsReadyToRun files source_name values_name (stack_sizes control temporary)) where
  -- the run of the processor that a session has
  machine_begins : (run : LevelOf) → run_in Fm9001 is.built.text (stack_sizes control temporary) is.values_text ≡ Ok run → run ≡ image_run is.image is.values
  machine_begins run begins =
      let sizes : StackSizes = stack_sizes control temporary in
      let here = is.built in
      let ready = ready_runs implement take files source_name values_name control temporary is in
      let own : source_built is.source sizes 0 ≡ Ok here.found = of_source here.text control temporary is.source here.found here.read here.made in
      let level : LevelOf = image_run here.found.image is.values in
      let first : run_at Fm9001 is.source sizes is.values_text ≡ Ok level
      = machine_run is.source sizes here.found is.values_text is.values own ready.gives in
      let found : run_in Fm9001 here.text sizes is.values_text ≡ Ok level
      = run_found Fm9001 here.text is.source sizes is.values_text level here.read first in
      let both : Ok run ≡ Ok level = sym begins ∙ found in
      let same : run ≡ level = cc in
      same ∙ ap (λ (i : ImageOf). image_run i is.values) is.built.same

  ended_text : (level : Level) (j n : ℕ) (finals : List ValueOf) (way : CurrentCondition) (spent : Tally) (run : LevelOf)
      → run_in level is.built.text (stack_sizes control temporary) is.values_text ≡ Ok run
      → moment_from (program_of is.source) (stack_sizes control temporary) is.values j ≡ Ended finals way spent → LeadsToEnd level spent n
      → up_text (walk n run).level ≡ lines_of_reading is.image (meaning_shown is.source finals way)
  ended_text Fm9001 j n finals way spent run begins stands enough =
      let sizes : StackSizes = stack_sizes control temporary in
      let ready = ready_runs implement take files source_name values_name control temporary is in
      let arrives : ArrivesAtEnd is.source is.image is.values finals way spent.count =
      subst (λ (m : Move). ArrivesAt is.source sizes is.image is.values m) stands (ready.moments is.values j ready.fits) in
      ap (λ (l : LevelOf). up_text (walk n l).level) (machine_begins run begins)
      ∙ end_said walks is.image is.values spent.count n (meaning_shown is.source finals way) arrives.comes enough
  ended_text Piton j n finals way spent run begins stands enough =
      let sizes : StackSizes = stack_sizes control temporary in
      let ready = ready_runs implement take files source_name values_name control temporary is in
      let short : length is.built.text ≤ 2 ^ 31 = omega (arith, is.built.readable.short) in
      let accepted : IsAccepted is.source = source_is_accepted is.built.text short is.source is.built.read in
      let own : source_built is.source sizes 0 ≡ Ok is.built.found =
      of_source is.built.text control temporary is.source is.built.found is.built.read is.built.made in
      let level : LevelOf = system_run is.source is.built.found.piton is.built.found.image is.values in
      let first : run_at Piton is.source sizes is.values_text ≡ Ok level = piton_run is.source sizes is.built.found is.values_text is.values own ready.gives in
      let found : run_in Piton is.built.text sizes is.values_text ≡ Ok level =
      run_found Piton is.built.text is.source sizes is.values_text level is.built.read first in
      let both : Ok run ≡ Ok level = sym begins ∙ found in
      let same : run ≡ level = cc in
      ap (λ (l : LevelOf). up_text (walk n l).level) same
      ∙ ends is.source sizes j n is.built.found is.values finals way spent accepted ready.fits own stands enough
      ∙ ap (λ (i : ImageOf). lines_of_reading i (meaning_shown is.source finals way)) is.built.same
  ended_text Gypsy j n finals way spent run begins stands enough = absurd enough

module _ (implement : BuiltImplements) (take : BuiltTakesValues) (moments : BuiltSaysMoments) (ends : BuiltSaysEnds)
    (up : UpIsSaid) (words : WordsAreSaid) (arrivals : ArrivalsAreSaid) (said_steps : StepsAreSaid) (stays : TextStays)
    (walks : MachinesWalk) (arrive : MachinesArrive)
    (level : Level) (source_name values_name : List ℕ) (control temporary : ℕ) (script_name : List ℕ) (watches : List Watching) (files : Files)
    (is : IsReadyToRun files source_name values_name (stack_sizes control temporary)) where
  abbrev debug : Command
  debug = command.Debug level source_name values_name control temporary script_name

  -- the run that the session begins with, and what it says where the step machine is in a state
  begun : (j n : ℕ) (g : State) → moment_from (program_of is.source) (stack_sizes control temporary) is.values j ≡ Next g → steps_to level g ≡ Some n
      → (b : Begins level is.source (stack_sizes control temporary) is.values_text n (state_text is.source g))
      × (run_in level is.built.text (stack_sizes control temporary) is.values_text ≡ Ok b.run)
  begun j n g stands steps =
      let here = is.built in
      let sizes : StackSizes = stack_sizes control temporary in
      let short : length here.text ≤ 2 ^ 31 = omega (arith, here.readable.short) in
      let few : length here.text ≤ 2 ^ 20 = omega (arith, here.readable.short) in
      let made : built here.text control temporary 0 ≡ Ok here.found = here.made in
      let builds : BuildsText here.text control temporary here.found = rw made at (implement here.text control temporary 0 short (omega arith)) in
      let read : Ok builds.source ≡ Ok is.source = sym builds.read ∙ here.read in
      let same : builds.source ≡ is.source = cc in
      let accepted : IsAccepted is.source = source_is_accepted here.text short is.source here.read in
      let marked : IsTrue (places_fit (program_of is.source)) = subst (λ (s : SourceOf). IsTrue (places_fit (program_of s))) same (builds.marked few) in
      let keeps : KeepsMoments here.found.image is.source sizes = subst (λ (s : SourceOf). KeepsMoments here.found.image s sizes) same builds.builds.moments in
      let run = ready_runs implement take files source_name values_name control temporary is in
      let own : source_built is.source sizes 0 ≡ Ok here.found = of_source here.text control temporary is.source here.found here.read made in
      let both : BothSay is.source here.found is.values g = moments is.source sizes j here.found is.values g accepted marked run.fits own keeps stands in
      let b = begins level is.source sizes here.found is.values_text is.values g n own run.gives both steps in
      (b, run_found level here.text is.source sizes is.values_text b.run here.read b.is)

  -- what the answer says where this is told to the line behind those
  answer_says : (before : List Line) (line : Line) (after : List Line) (said told : List ℕ) (left : SessionOf) (asks : Asks files script_name before line after)
      (to : SaysTo level is.built.text (stack_sizes control temporary) is.values_text watches before said)
      → followed [] (before ++ line ∷ after) (session_on to.run watches) ≡ followed ((followed [] before (session_on to.run watches)).text ++ told) after left
      → BeginsWith (answer_to debug watches files).text (said ++ told)
  unfolding inputs_of reply_by
  answer_says before line after said told left asks to tells =
      subst (λ (r : Result Texts EarlyEnd). BeginsWith (answer_on debug watches r).text (said ++ told))
      (sym (three_there files (Source, source_name) (Values, values_name) (Script, script_name) is.built.text is.values_text asks.script
      is.built.readable is.there asks.there))
      (subst (λ (r : Result LevelOf Verdict). BeginsWith (reply_text (session_reply r watches asks.script)) (said ++ told)) (sym to.begins)
      (reply_says stays to.run watches asks.script before line after said told left to.says asks.lines tells))

  -- so at a line of `up`
  up_says : (before after : List Line) (said text : List ℕ) (number : ℕ) (asks : Asks files script_name before (up_line number) after)
      (to : SaysTo level is.built.text (stack_sizes control temporary) is.values_text watches before said)
      → up_text (walk (steps_of_lines before to.run) to.run).level ≡ text → BeginsWith (answer_to debug watches files).text (said ++ text)
  up_says before after said text number asks to same =
      let s : SessionOf = session_on to.run watches in
      let made : Followed = followed [] before s in
      answer_says before (up_line number) after said text made.session asks to
      (up [] before after number s (all_done to.run watches before to.done) ∙ ap (λ (t : List ℕ). followed (made.text ++ t) after made.session) same)

  -- where the processor stands behind the lines, so does the session
  stands_there : level ≡ Fm9001 → (before : List Line) (said : List ℕ) (state : fm.Fm)
      (to : SaysTo level is.built.text (stack_sizes control temporary) is.values_text watches before said)
      → StandsAfter (steps_of_lines before to.run) (loaded is.image is.values) is.image.final_pc state
      → (walk (steps_of_lines before to.run) to.run).level ≡ Fm record { image = is.image; state = state }
  stands_there at before said state to stands =
      let n : ℕ = steps_of_lines before to.run in
      let is_run : run_in Fm9001 is.built.text (stack_sizes control temporary) is.values_text ≡ Ok to.run
      = subst (λ (l : Level). run_in l is.built.text (stack_sizes control temporary) is.values_text ≡ Ok to.run) at to.begins in
      let begins : to.run ≡ image_run is.image is.values
      = machine_begins implement take ends walks source_name values_name control temporary files is to.run is_run in
      ap (λ (l : LevelOf). (walk n l).level) begins ∙ walk_stands walks is.image is.values n state stands

  -- of `words`
  words_says : level ≡ Fm9001 → (before after : List Line) (said : List ℕ) (number address count : ℕ) (state : fm.Fm)
      (asks : Asks files script_name before (line_of_words number address count) after)
      (to : SaysTo level is.built.text (stack_sizes control temporary) is.values_text watches before said)
      → StandsAfter (steps_of_lines before to.run) (loaded is.image is.values) is.image.final_pc state
      → BeginsWith (answer_to debug watches files).text (said ++ word_lines state address count)
  words_says at before after said number address count state asks to stands =
      let s : SessionOf = session_on to.run watches in
      let made : Followed = followed [] before s in
      let there : FmLevelOf = record { image = is.image; state = state } in
      answer_says before (line_of_words number address count) after said (word_lines state address count) made.session asks to
      (words [] before after number address count s there (all_done to.run watches before to.done) (stands_there at before said state to stands))

  -- and of `until`
  until_says : (before after : List Line) (said : List ℕ) (number limit k : ℕ) (there : Place) (here : LevelOf)
      (asks : Asks files script_name before (until_line number there limit) after)
      (to : SaysTo level is.built.text (stack_sizes control temporary) is.values_text watches before said)
      → (walk (steps_of_lines before to.run) to.run).level ≡ here → has_places here there ≡ true → IsFirstArrival there k here → k ≤ limit
      → BeginsWith (answer_to debug watches files).text (said ++ arrival_text (arrival.There k))
  until_says before after said number limit k there here asks to leads has first within =
      let s : SessionOf = session_on to.run watches in
      let made : Followed = followed [] before s in
      answer_says before (until_line number there limit) after said (arrival_text (arrival.There k)) (stepped k made.session).session asks to
      (arrivals [] before after number limit k there s here (all_done to.run watches before to.done) leads has first within)

  -- of `until` with an address
  address_says : level ≡ Fm9001 → (before after : List Line) (said : List ℕ) (number address limit k : ℕ) (state there : fm.Fm)
      (asks : Asks files script_name before (until_line number (place.Number address) limit) after)
      (to : SaysTo level is.built.text (stack_sizes control temporary) is.values_text watches before said)
      → StandsAfter (steps_of_lines before to.run) (loaded is.image is.values) is.image.final_pc state
      → IsFirst state address k there → Avoids state is.image.final_pc k → k ≤ limit
      → BeginsWith (answer_to debug watches files).text (said ++ arrival_text (arrival.There k))
  address_says at before after said number address limit k state there asks to stands first apart within =
      let here : FmLevelOf = record { image = is.image; state = state } in
      until_says before after said number limit k (place.Number address) (Fm here) asks to (stands_there at before said state to stands) refl
      (arrive address k here there first apart) within

  run_same : (a b : LevelOf) → run_in level is.built.text (stack_sizes control temporary) is.values_text ≡ Ok a
      → run_in level is.built.text (stack_sizes control temporary) is.values_text ≡ Ok b → a ≡ b
  run_same a b first second = let same : Ok a ≡ Ok b = sym first ∙ second in cc

  debug_explains : ExplainsRun level files script_name source_name values_name (stack_sizes control temporary) is watches (answer_to debug watches files)
  debug_explains = record {
    up = λ before after said number j g asks to stands steps.
        let b = begun j (steps_of_lines before to.run) g stands steps in
        let same : b.0.run ≡ to.run = run_same b.0.run to.run b.1 to.begins in
        up_says before after said (state_text is.source g) number asks to
        (ap (λ (l : LevelOf). up_text (walk (steps_of_lines before to.run) l).level) (sym same) ∙ b.0.says.says);
    up_at_end = λ before after said number j finals way spent asks to stands enough.
        up_says before after said (lines_of_reading is.image (meaning_shown is.source finals way)) number asks to
        (ended_text implement take ends walks source_name values_name control temporary files is level j
        (steps_of_lines before to.run) finals way spent to.run to.begins stands enough);
    up_at_top = λ at before after said number asks to.
        up_says before after said gypsy_up number asks to
        (top_says level at is.built.text (stack_sizes control temporary) is.values_text to.run (steps_of_lines before to.run) to.begins);
    words = words_says;
    until = until_says;
    until_address = address_says;
    steps = λ lines j g asks stands steps.
        let b = begun j (all_asked lines) g stands steps in
        let h = steps_said said_steps b.0.run watches lines asks b.0.says.goes in
        record { run = b.0.run; begins = b.1; done = h.0; says = h.1 };
  }

pub explains : BuiltImplements → BuiltTakesValues → BuiltSaysMoments → BuiltSaysEnds → UpIsSaid → WordsAreSaid → ArrivalsAreSaid → StepsAreSaid → TextStays
    → MachinesWalk → MachinesArrive → (c : Command) (watches : List Watching) (files : Files) → Explains c watches files (answer_to c watches files)
explains implement take moments ends up words arrivals steps stays walks arrive (command.Debug level source values control temporary script) watches files =
    λ is. debug_explains implement take moments ends up words arrivals steps stays walks arrive level source values control temporary script watches files is
explains implement take moments ends up words arrivals steps stays walks arrive c watches files = tt
