-- What a session says whose run begins with a Piton text, or with an image.
use Rattle.std.specs.Prelude.{◌≡◌, ◌≤◌, ℕ, suc, List, ◌∷◌, ◌++◌, Ok, true}
use Rattle.stack_text.specs.Values.{ValueOf}
use Rattle.stack_shelf.specs.Files.{Files}
use Rattle.fm_words.specs.WindowLimit.{most_window}
use Rattle.fm_machine.specs.{Run.{Avoids, IsFirst, fm_run}, State.{Fm}}
use Rattle.fm_image.specs.{Image.{ImageOf}, Spelling.{Spelled}}
use Rattle.fm_loader.specs.{Loaded.{loaded}, Values.{values_in}}
use Rattle.fm_show.specs.Listing.{machine_listing}
use Rattle.piton_check.specs.PitonChecking.{CheckedOf}
use Rattle.piton_semantics.specs.{Fits.{system_in}, Placed.{placed}, State.{Frame, PitonState}, StateView.{saturated}}
use Rattle.debug_script.specs.{declared.command.Place.{Place}, declared.command.Place.TheVariants.{Number}, declared.reading.Line.{Line}}
use Rattle.level_debuggers.specs.{declared.arrival.Arrival.TheVariants.{There}, Arrivals.{IsFirstArrival}, FmLevels.{word_lines}}
use Rattle.level_debuggers.specs.{Levels.{LevelOf, has_places}, PitonLevels.{piton_listing}, ScriptSteps.{AskForSteps, all_asked}}
use Rattle.level_debuggers.specs.{ScriptSteps.{line_of_words, show_line, stepped_lines, steps_of_lines, until_line}, Tallies.{Watching}}
use Rattle.level_debuggers.specs.{Transcripts.{arrival_text}, Walks.{walk}}
use Rattle.command_line.specs.{declared.command.Command.{Command}, declared.command.Command.TheVariants.{Pdebug, Idebug}}
use Rattle.command_line.specs.declared.role.Role.TheVariants.{Piton, SessionImage, Values}
use Rattle.command_replies.specs.{declared.reply.Verdict.TheVariants.{Done}, Commands.PitonText.{checked_in}}
use Rattle.stack_commands.specs.{Commands.Debug.{lines_reply}, Commands.Pdebug.{opened}}
use Rattle.cli_stack.specs.{Answer.{Answer}, Explains.{Asks, BeginsWith, StandsAfter}, FilesAndSizes.{IsReadable}, Links.{ReachesState}}
use Rattle.cli_stack.specs.SessionMoments.{image_run}

-- a session on a run, with these watches, carries out all these lines, and this is what it says to them
pub record CarriesOut (run : LevelOf) (watches : List Watching) (lines : List Line) (said : List ℕ) : Type 0 where
  pub done : (lines_reply run watches lines).verdict ≡ Done
  pub says : (lines_reply run watches lines).said ≡ said

-- Behind lines that are carried out, to a line of `until`: that the run has arrived, where it stands at the place first after k steps
-- more, and that is not too far.
abbrev pub SaysArrivals : LevelOf → Files → List ℕ → List Watching → Answer → Type 0
SaysArrivals run files script watches answer =
    (before after : List Line) (said : List ℕ) (number limit k : ℕ) (there : Place)
    → Asks files script before (until_line number there limit) after → CarriesOut run watches before said →
    let here = (walk (steps_of_lines before run) run).level in
    has_places here there ≡ true → IsFirstArrival there k here → k ≤ limit → BeginsWith answer.text (said ++ arrival_text (There k))

-- 1. A Piton text.

-- Whatever lines come before, and are carried out: behind what is said to them comes this.
pub record ShowsSystem (files : Files) (script : List ℕ) (checked : CheckedOf) (watches : List Watching) (answer : Answer) : Type 0 where
  -- to `show`, the state that the system reaches from its opening state in as many steps as they lead
  pub show : (before after : List Line) (said : List ℕ) (number : ℕ) (state : PitonState)
      → Asks files script before (show_line number) after → CarriesOut (opened checked) watches before said
      → ReachesState (system_in checked) (steps_of_lines before (opened checked)) state
      → BeginsWith answer.text (said ++ piton_listing checked.system state)
  pub until : SaysArrivals (opened checked) files script watches answer
  -- lines that ask for steps alone, as many as lead to a state that has not halted, are carried out, and `stepped N` is said to each
  pub steps : (lines : List Line) (state : PitonState) (frame : Frame) (frames : List Frame) → AskForSteps lines
      → ReachesState (system_in checked) (all_asked lines) state → state.frames ≡ frame ∷ frames
      → CarriesOut (opened checked) watches lines (stepped_lines lines)

-- 2. An image.

pub record ShowsMachine (files : Files) (script : List ℕ) (image : ImageOf) (values : List ValueOf) (watches : List Watching)
    (answer : Answer) : Type 0 where
  -- to `show`, the state to which as many instructions as they lead take the processor from the loaded image, and how many it made
  pub show : (before after : List Line) (said : List ℕ) (number : ℕ) (state : Fm) → Asks files script before (show_line number) after
      → CarriesOut (image_run image values) watches before said
      → (stands : StandsAfter (steps_of_lines before (image_run image values)) (loaded image values) image.final_pc state)
      → BeginsWith answer.text (said ++ machine_listing state (saturated stands.made))
  -- to `words`, so many words of its memory there
  pub words : (before after : List Line) (said : List ℕ) (number address count : ℕ) (state : Fm)
      → Asks files script before (line_of_words number address count) after → CarriesOut (image_run image values) watches before said
      → StandsAfter (steps_of_lines before (image_run image values)) (loaded image values) image.final_pc state
      → BeginsWith answer.text (said ++ word_lines state address count)
  pub until : SaysArrivals (image_run image values) files script watches answer
  -- to `until` with an address, where its r15 is the address first after k instructions more, and the end does not come before
  pub until_address : (before after : List Line) (said : List ℕ) (number address limit k : ℕ) (state there : Fm)
      → Asks files script before (until_line number (Number address) limit) after → CarriesOut (image_run image values) watches before said
      → StandsAfter (steps_of_lines before (image_run image values)) (loaded image values) image.final_pc state
      → IsFirst state address k there → Avoids state image.final_pc k → k ≤ limit → BeginsWith answer.text (said ++ arrival_text (There k))
  -- lines that ask for steps alone, as many as lead to a state before the end, are carried out, and `stepped N` is said to each
  pub steps : (lines : List Line) (state : Fm) → AskForSteps lines → fm_run (all_asked lines) (loaded image values) ≡ Ok state
      → Avoids (loaded image values) image.final_pc (suc (all_asked lines))
      → CarriesOut (image_run image values) watches lines (stepped_lines lines)

-- 3. The commands.

-- where the files are there and nothing in them is refused, `pdebug` and `idebug` say so
abbrev pub ShowsRuns : Command → List Watching → Files → Answer → Type 0
ShowsRuns (Pdebug piton script) watches files answer =
    (text : List ℕ) (checked : CheckedOf) → IsReadable files Piton piton text → checked_in text ≡ Ok checked
    → (placed (system_in checked)).size ≤ most_window → ShowsSystem files script checked watches answer
ShowsRuns (Idebug image_name values_name script) watches files answer =
    (bytes values_text : List ℕ) (image : ImageOf) (values : List ValueOf) → IsReadable files SessionImage image_name bytes
    → Spelled bytes image → IsReadable files Values values_name values_text → values_in image.slots values_text ≡ Ok values
    → ShowsMachine files script image values watches answer
ShowsRuns _ watches files answer = Unit {0}
