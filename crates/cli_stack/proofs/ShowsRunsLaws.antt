-- What a session of a Piton text, or of an image, shows of its run.
use Rattle.std.proofs.Common.{◌≡◌, ◌≢◌, ◌≤◌, ◌+◌, ℕ, zero, suc, false, List, [], ◌∷◌, ◌++◌, Result, Ok, length, refl, sym, ap, subst, ◌∙◌, arith, inl, inr}
use Rattle.std.proofs.lemmas.Bool.{le-ltb}
use Rattle.stack_text.specs.Values.{ValueOf}
use Rattle.stack_shelf.specs.Files.{Files}
use Rattle.fm_image.{specs.Image.ImageOf, specs.Spelling.Spelled, proofs.ImageLaws.spelled_reads}
use Rattle.fm_loader.{specs.Loaded.loaded, specs.Values.values_in}
use Rattle.fm_machine.specs.Run.{Avoids, IsFirst, fm_run, pc_of}
use Rattle.fm_machine.specs.State as fm
use Rattle.fm_show.specs.Listing.{machine_listing}
use Rattle.fm_words.specs.WindowLimit.{most_window}
use Rattle.piton_check.{specs.PitonChecking.CheckedOf, specs.Instruction.SystemView}
use Rattle.piton_semantics.{specs.Fits.system_in, specs.Placed.placed, specs.State.{Frame, PitonState}, specs.Step.{piton_run, piton_step, step_from}}
use Rattle.piton_semantics.{specs.StateView.{Seen, opening, saturated, seen_after}, proofs.RunLaws.{first_of_run, run_first}}
use Rattle.debug_script.{specs.declared.reading.Line.Line, specs.Scripts.script_of}
use Rattle.debug_script.specs.declared.command.Place.TheVariants as place
use Rattle.level_debuggers.{specs.FmLevels.{FmLevelOf, word_lines}, specs.Levels.{LevelOf, Piton, Fm, has_places, lifted, next_of, show_text}}
use Rattle.level_debuggers.{specs.PitonLevels.{PitonLevelOf, piton_from, piton_listing}, specs.RunWalks.{MachinesArrive, MachinesWalk, WalksTo}}
use Rattle.level_debuggers.specs.ScriptSteps.{ArrivalsAreSaid, AskForSteps, GoesOn, ShowIsSaid, StepsAreSaid, TextStays, WordsAreSaid, all_asked, line_of_words}
use Rattle.level_debuggers.{specs.ScriptSteps.{show_line, stepped_lines, steps_of_lines, until_line}, specs.Arrivals.IsFirstArrival, specs.Steps.Over}
use Rattle.level_debuggers.{specs.Steps.is_over, specs.Tallies.Watching, specs.Transcripts.{Followed, arrival_text, followed}, specs.Walks.{SessionOf, Walk}}
use Rattle.level_debuggers.{specs.Walks.{stepped, walk, walk_on}, proofs.RunWalkLaws.system_makes, proofs.WalkLaws.{IsStop, walk_stays}}
use Rattle.level_debuggers.specs.declared.arrival.Arrival.TheVariants as arrival
use Rattle.command_line.{specs.declared.command.Command.Command, specs.declared.early_end.EarlyEnd.EarlyEnd, specs.CommandFiles.inputs_of}
use Rattle.command_line.{specs.declared.role.Role.TheVariants.{Script, SessionImage, Values}, specs.Gathered.Texts}
use Rattle.command_line.specs.declared.command.Command.TheVariants as command
use Rattle.command_line.specs.declared.role.Role.TheVariants as role
use Rattle.command_replies.{specs.declared.reply.Verdict.Verdict, specs.Replies.reply_text, specs.Commands.PitonText.checked_in}
use Rattle.stack_commands.{specs.Commands.Debug.{script_reply, session_on, session_reply}, specs.Commands.Idebug.image_run_in, specs.Prepared.reply_by}
use Rattle.stack_commands.{specs.Commands.Pbuild.is_large, specs.Commands.Pdebug.{opened, piton_run_in}}
use Rattle.stack_build.specs.Image.{linked_image}
use Rattle.cli_stack.{specs.Answer.{Answer, answer_on, answer_to}, specs.FilesAndSizes.IsReadable, specs.Links.ReachesState, specs.SessionMoments.image_run}
use Rattle.cli_stack.{specs.Explains.{Asks, BeginsWith, StandsAfter}, specs.ShowsRuns.{CarriesOut, SaysArrivals, ShowsMachine, ShowsRuns, ShowsSystem}}
use Rattle.cli_stack.{proofs.ExplainsLaws.{all_done, is_over_there, reply_says, steps_said, three_there, walk_stands}, proofs.TellsLaws.both_there}
use Rattle.cli_stack.proofs.SessionLaws.{machine_goes, system_goes}

-- 1. Any run, where the answer is what its session replies to the script.

module _ (show : ShowIsSaid) (words : WordsAreSaid) (arrivals : ArrivalsAreSaid) (stays : TextStays) (run : LevelOf) (watches : List Watching)
    (files : Files) (script_name : List ℕ) (answer : Answer)
    (is : (script : List ℕ) → IsReadable files Script script_name script → answer.text ≡ reply_text (script_reply run watches (script_of script))) where
  -- what it says where this is told to the line behind those
  line_says : (before : List Line) (line : Line) (after : List Line) (said told : List ℕ) (left : SessionOf)
      (asks : Asks files script_name before line after) (to : CarriesOut run watches before said)
      → followed [] (before ++ line ∷ after) (session_on run watches) ≡ followed ((followed [] before (session_on run watches)).text ++ told) after left
      → BeginsWith answer.text (said ++ told)
  line_says before line after said told left asks to tells =
      subst (λ (t : List ℕ). BeginsWith t (said ++ told)) (sym (is asks.script asks.there))
      (reply_says stays run watches asks.script before line after said told left to.says asks.lines tells)

  show_says : (before after : List Line) (said told : List ℕ) (number : ℕ) (asks : Asks files script_name before (show_line number) after)
      (to : CarriesOut run watches before said)
      → show_text (walk (steps_of_lines before run) run).level (saturated (0 + length (walk (steps_of_lines before run) run).events)) ≡ told
      → BeginsWith answer.text (said ++ told)
  show_says before after said told number asks to same =
      let s : SessionOf = session_on run watches in
      let made : Followed = followed [] before s in
      line_says before (show_line number) after said told made.session asks to
      (show [] before after number s (omega arith) (all_done run watches before to.done)
      ∙ ap (λ (t : List ℕ). followed (made.text ++ t) after made.session) same)

  words_say : (before after : List Line) (said : List ℕ) (number address count : ℕ) (there : FmLevelOf)
      (asks : Asks files script_name before (line_of_words number address count) after) (to : CarriesOut run watches before said)
      → (walk (steps_of_lines before run) run).level ≡ Fm there → BeginsWith answer.text (said ++ word_lines there.state address count)
  words_say before after said number address count there asks to leads =
      let s : SessionOf = session_on run watches in
      let made : Followed = followed [] before s in
      line_says before (line_of_words number address count) after said (word_lines there.state address count) made.session asks to
      (words [] before after number address count s there (all_done run watches before to.done) leads)

  until_says : SaysArrivals run files script_name watches answer
  until_says before after said number limit k there asks to has first within =
      let s : SessionOf = session_on run watches in
      let made : Followed = followed [] before s in
      let here : LevelOf = (walk (steps_of_lines before run) run).level in
      line_says before (until_line number there limit) after said (arrival_text (arrival.There k)) (stepped k made.session).session asks to
      (arrivals [] before after number limit k there s here (all_done run watches before to.done) refl has first within)

-- lines that ask for steps alone, which can be made and don't come to the end
carried_out : StepsAreSaid → (run : LevelOf) (watches : List Watching) (lines : List Line) → AskForSteps lines → GoesOn (all_asked lines) run
    → CarriesOut run watches lines (stepped_lines lines)
carried_out steps run watches lines asks goes =
    let h = steps_said steps run watches lines asks goes in
    record { done = h.0; says = h.1 }

-- 2. The processor.

-- where it stands after so many instructions, a walk of as many steps has made as many
walk_made : MachinesWalk → (image : ImageOf) (values : List ValueOf) (n : ℕ) (state : fm.Fm) (stands : StandsAfter n (loaded image values) image.final_pc state)
    → length (walk n (image_run image values)).events ≡ stands.made
unfolding IsStop
walk_made walks image values n state stands =
    let run : FmLevelOf = record { image = image; state = loaded image values } in
    let there : FmLevelOf = record { image = image; state = state } in
    let w : WalksTo stands.made (Fm run) (Fm there) = walks stands.made run state stands.reached stands.before in
    elim stands.last [
      | inl same ↦ ap (λ (k : ℕ). length (walk k (Fm run)).events) (sym same) ∙ w.whole
      | inr ended ↦ ap (λ (m : Walk). length m.events)
          (walk_stays stands.made n (Fm run) stands.within (subst IsStop (sym (ap next_of w.leads ∙ is_over_there there ended)) tt))
          ∙ w.whole
    ]

-- an end that so many instructions and one more avoid has not come
machine_goes_on : MachinesWalk → (image : ImageOf) (values : List ValueOf) (n : ℕ) (state : fm.Fm) → fm_run n (loaded image values) ≡ Ok state
    → Avoids (loaded image values) image.final_pc (suc n) → GoesOn n (image_run image values)
machine_goes_on walks image values n state made apart =
    let run : FmLevelOf = record { image = image; state = loaded image values } in
    let there : FmLevelOf = record { image = image; state = state } in
    let w : WalksTo n (Fm run) (Fm there) = walks n run state made (λ i u lt e. apart i u (omega (arith, lt)) e) in
    let ends : pc_of state ≢ image.final_pc = apart n state (omega arith) made in
    record { whole = w.whole; going = subst (λ (l : LevelOf). is_over (next_of l) ≡ false) (sym w.leads) (machine_goes there ends) }

-- 3. Piton's machine.

-- a halted state stays
run_stays : (s : SystemView) (n : ℕ) (p : PitonState) → p.frames ≡ [] → piton_run s n p ≡ Ok p
unfolding piton_run
run_stays s zero p halted = refl
run_stays s (suc n) p halted =
    run_first s n p p (ap (step_from s p) halted) ∙ run_stays s n p halted

-- a walk of so many steps leads to what is seen of a state, and has made all of them if that has not halted
record Leads (n : ℕ) (run : PitonLevelOf) (state : PitonState) : Type 0 where
  pub seen : Seen
  pub there : seen.state ≡ state
  pub leads : (walk n (Piton run)).level ≡ Piton (record run { seen = seen })
  pub whole : (f : Frame) (fs : List Frame) → state.frames ≡ f ∷ fs → length (walk n (Piton run)).events ≡ n

halted_leads : (n : ℕ) (run : PitonLevelOf) (state : PitonState) → run.seen.state.frames ≡ []
    → piton_run (system_in run.checked) (suc n) run.seen.state ≡ Ok state → Leads (suc n) run state
unfolding walk
halted_leads n run state halted made =
    let both : Ok run.seen.state ≡ Ok state = sym (run_stays (system_in run.checked) (suc n) run.seen.state halted) ∙ made in
    let same : run.seen.state ≡ state = cc in
    let over : next_of (Piton run) ≡ Over = ap (λ (fs : List Frame). lifted Piton (piton_from run fs)) halted in
    record {
      seen = run.seen;
      there = same;
      leads = ap (λ x. (walk_on (Piton run) (walk n) x).level) over;
      whole = λ f fs frames. absurd (let none : [] ≡ f ∷ fs = sym halted ∙ ap (λ (p : PitonState). p.frames) same ∙ frames in cc);
    }

step_leads : (n : ℕ) (run : PitonLevelOf) (next state : PitonState) (f : Frame) (fs : List Frame) → run.seen.state.frames ≡ f ∷ fs
    → piton_step (system_in run.checked) run.seen.state ≡ Ok next
    → Leads n (record run { seen = seen_after (system_in run.checked) run.seen next }) state → Leads (suc n) run state
unfolding walk
step_leads n run next state f fs frames step rest =
    let makes = system_makes run next f fs frames step in
    record {
      seen = rest.seen;
      there = rest.there;
      leads = ap (λ x. (walk_on (Piton run) (walk n) x).level) makes ∙ rest.leads;
      whole = λ g gs going. ap (λ x. length (walk_on (Piton run) (walk n) x).events) makes ∙ ap suc (rest.whole g gs going);
    }

system_leads : (n : ℕ) (run : PitonLevelOf) (state : PitonState) → piton_run (system_in run.checked) n run.seen.state ≡ Ok state → Leads n run state
unfolding piton_run walk
system_leads zero run state made =
    let both : Ok run.seen.state ≡ Ok state = made in
    let same : run.seen.state ≡ state = cc in
    record { seen = run.seen; there = same; leads = refl; whole = λ f fs going. refl }
system_leads (suc n) run state made = by_frames run.seen.state.frames refl (λ next rest. system_leads n next state rest)
  where
    by_frames : (frames : List Frame) → run.seen.state.frames ≡ frames
        → ((next : PitonLevelOf) → piton_run (system_in next.checked) n next.seen.state ≡ Ok state → Leads n next state) → Leads (suc n) run state
    by_frames [] halted go = halted_leads n run state halted made
    by_frames (f ∷ fs) frames go =
        let first = first_of_run (system_in run.checked) n run.seen.state state made in
        step_leads n run first.next state f fs frames first.step
        (go (record run { seen = seen_after (system_in run.checked) run.seen first.next }) first.rest)

-- the run of a system from its opening state on
abbrev opened_level : CheckedOf → PitonLevelOf
opened_level checked = record {
  checked = checked;
  image = linked_image (system_in checked);
  seen = opening (system_in checked) (system_in checked).stack;
}

module _ (checked : CheckedOf) (n : ℕ) (state : PitonState) (reaches : ReachesState (system_in checked) n state) where
  shown_there : (count : ℕ) → show_text (walk n (opened checked)).level count ≡ piton_listing checked.system state
  shown_there count =
      let to : Leads n (opened_level checked) state = system_leads n (opened_level checked) state reaches in
      ap (λ (l : LevelOf). show_text l count) to.leads ∙ ap (piton_listing checked.system) to.there

  system_goes_on : (f : Frame) (fs : List Frame) → state.frames ≡ f ∷ fs → GoesOn n (opened checked)
  system_goes_on f fs frames =
      let to : Leads n (opened_level checked) state = system_leads n (opened_level checked) state reaches in
      let run : PitonLevelOf = record (opened_level checked) { seen = to.seen } in
      record {
        whole = to.whole f fs frames;
        going = subst (λ (l : LevelOf). is_over (next_of l) ≡ false) (sym to.leads)
            (system_goes run f fs (ap (λ (p : PitonState). p.frames) to.there ∙ frames));
      }

-- 4. The answers.

module _ (show : ShowIsSaid) (words : WordsAreSaid) (arrivals : ArrivalsAreSaid) (steps : StepsAreSaid) (stays : TextStays) (walks : MachinesWalk)
    (arrive : MachinesArrive) (watches : List Watching) (files : Files) where
  module _ (piton_name script_name text : List ℕ) (checked : CheckedOf) (there : IsReadable files role.Piton piton_name text)
      (read : checked_in text ≡ Ok checked) (small : (placed (system_in checked)).size ≤ most_window) where
    abbrev pdebug : Command
    pdebug = command.Pdebug piton_name script_name

    opens : piton_run_in text ≡ Ok (opened checked)
    unfolding piton_run_in
    opens =
        let fits : is_large (system_in checked) ≡ false = le-ltb most_window (placed (system_in checked)).size small in
        rw (read, fits) refl

    pdebug_answers : (script : List ℕ) → IsReadable files Script script_name script
        → (answer_to pdebug watches files).text ≡ reply_text (script_reply (opened checked) watches (script_of script))
    unfolding inputs_of reply_by
    pdebug_answers script script_there =
        ap (λ (r : Result Texts EarlyEnd). (answer_on pdebug watches r).text)
        (both_there files (role.Piton, piton_name) (Script, script_name) text script there script_there)
        ∙ ap (λ (r : Result LevelOf Verdict). reply_text (session_reply r watches script)) opens

    system_shown : ShowsSystem files script_name checked watches (answer_to pdebug watches files)
    system_shown = record {
      show = λ before after said number state asks to reaches.
          show_says show words arrivals stays (opened checked) watches files script_name (answer_to pdebug watches files) pdebug_answers
          before after said (piton_listing checked.system state) number asks to
          (shown_there checked (steps_of_lines before (opened checked)) state reaches
          (saturated (0 + length (walk (steps_of_lines before (opened checked)) (opened checked)).events)));
      until = until_says show words arrivals stays (opened checked) watches files script_name (answer_to pdebug watches files) pdebug_answers;
      steps = λ lines state f fs asks reaches frames.
          carried_out steps (opened checked) watches lines asks (system_goes_on checked (all_asked lines) state reaches f fs frames);
    }

  module _ (image_name values_name script_name bytes values_text : List ℕ) (image : ImageOf) (values : List ValueOf)
      (there : IsReadable files SessionImage image_name bytes) (spells : Spelled bytes image) (there' : IsReadable files Values values_name values_text)
      (gives : values_in image.slots values_text ≡ Ok values) where
    abbrev idebug : Command
    idebug = command.Idebug image_name values_name script_name

    loads : image_run_in bytes values_text ≡ Ok (image_run image values)
    loads = rw (spelled_reads bytes image spells, gives) refl

    idebug_answers : (script : List ℕ) → IsReadable files Script script_name script
        → (answer_to idebug watches files).text ≡ reply_text (script_reply (image_run image values) watches (script_of script))
    unfolding inputs_of reply_by
    idebug_answers script script_there =
        ap (λ (r : Result Texts EarlyEnd). (answer_on idebug watches r).text)
        (three_there files (SessionImage, image_name) (Values, values_name) (Script, script_name) bytes values_text script there there' script_there)
        ∙ ap (λ (r : Result LevelOf Verdict). reply_text (session_reply r watches script)) loads

    -- where the processor stands behind the lines, so does the session, and shows its state
    stands_there : (before : List Line) (state : fm.Fm)
        → StandsAfter (steps_of_lines before (image_run image values)) (loaded image values) image.final_pc state
        → (walk (steps_of_lines before (image_run image values)) (image_run image values)).level ≡ Fm record { image = image; state = state }
    stands_there before state stands = walk_stands walks image values (steps_of_lines before (image_run image values)) state stands

    shown_after : (before : List Line) (state : fm.Fm)
        (stands : StandsAfter (steps_of_lines before (image_run image values)) (loaded image values) image.final_pc state)
        → show_text (walk (steps_of_lines before (image_run image values)) (image_run image values)).level
        (saturated (0 + length (walk (steps_of_lines before (image_run image values)) (image_run image values)).events))
        ≡ machine_listing state (saturated stands.made)
    shown_after before state stands =
        let n : ℕ = steps_of_lines before (image_run image values) in
        let events : ℕ = length (walk n (image_run image values)).events in
        let made : events ≡ stands.made = walk_made walks image values n state stands in
        let count : saturated (0 + events) ≡ saturated stands.made = omega (arith, made) in
        ap (λ (l : LevelOf). show_text l (saturated (0 + events))) (stands_there before state stands) ∙ ap (machine_listing state) count

    arrives_there : SaysArrivals (image_run image values) files script_name watches (answer_to idebug watches files)
    arrives_there =
        until_says show words arrivals stays (image_run image values) watches files script_name (answer_to idebug watches files) idebug_answers

    address_says : (before after : List Line) (said : List ℕ) (number address limit k : ℕ) (state there : fm.Fm)
        → Asks files script_name before (until_line number (place.Number address) limit) after → CarriesOut (image_run image values) watches before said
        → StandsAfter (steps_of_lines before (image_run image values)) (loaded image values) image.final_pc state
        → IsFirst state address k there → Avoids state image.final_pc k → k ≤ limit
        → BeginsWith (answer_to idebug watches files).text (said ++ arrival_text (arrival.There k))
    address_says before after said number address limit k state there asks to stands first apart within =
        let here : FmLevelOf = record { image = image; state = state } in
        let leads : Fm here ≡ (walk (steps_of_lines before (image_run image values)) (image_run image values)).level
        = sym (stands_there before state stands) in
        arrives_there before after said number limit k (place.Number address) asks to
        (ap (λ (l : LevelOf). has_places l (place.Number address)) (sym leads))
        (subst (λ (l : LevelOf). IsFirstArrival (place.Number address) k l) leads (arrive address k here there first apart)) within

    machine_shown : ShowsMachine files script_name image values watches (answer_to idebug watches files)
    machine_shown = record {
      show = λ before after said number state asks to stands.
          show_says show words arrivals stays (image_run image values) watches files script_name (answer_to idebug watches files) idebug_answers
          before after said (machine_listing state (saturated stands.made)) number asks to (shown_after before state stands);
      words = λ before after said number address count state asks to stands.
          words_say show words arrivals stays (image_run image values) watches files script_name (answer_to idebug watches files) idebug_answers
          before after said number address count record { image = image; state = state } asks to (stands_there before state stands);
      until = arrives_there;
      until_address = address_says;
      steps = λ lines state asks made apart.
          carried_out steps (image_run image values) watches lines asks (machine_goes_on walks image values (all_asked lines) state made apart);
    }

  pub shows_runs : (c : Command) → ShowsRuns c watches files (answer_to c watches files)
  shows_runs (command.Pdebug piton script) = λ text checked there read small. system_shown piton script text checked there read small
  shows_runs (command.Idebug image_name values_name script) = λ bytes values_text image values there spells there' gives.
      machine_shown image_name values_name script bytes values_text image values there spells there' gives
  shows_runs c = tt
