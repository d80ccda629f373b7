-- What a session says of its source, where its step machine comes to a state and at the end, of the processor's memory, and of arrivals.
use Rattle.std.specs.Prelude.{◌≡◌, ◌≤◌, ◌⊎◌, ℕ, List, ◌∷◌, ◌++◌, Option, Some, None, Ok, true}
use Rattle.stack_text.specs.Values.{ValueOf}
use Rattle.stack_shelf.specs.Files.{Files}
use Rattle.fm_loader.specs.Loaded.{loaded}
use Rattle.fm_machine.specs.{Run.{Avoids, IsFirst, fm_run, pc_of}, State.{Fm}}
use Rattle.display_maps.specs.Report.{lines_of_reading}
use Rattle.gypsy_syntax.specs.Resolved.{program_of}
use Rattle.gypsy_space.specs.{Costs.{Tally}, Needs.{StackSizes, stack_sizes}}
use Rattle.gypsy_semantics.specs.{Calls.{CurrentCondition}, Machine.{State, Next, Ended}, Views.Moments.{moment_from}}
use Rattle.gypsy_semantics.specs.Views.RunView.{spent_at}
use Rattle.stack_build.specs.Implements.{meaning_shown}
use Rattle.debug_script.specs.{declared.command.Place.{Place}, declared.command.Place.TheVariants.{Number}, declared.reading.Line.{Line}}
use Rattle.debug_script.specs.Scripts.{script_of}
use Rattle.level_debuggers.specs.{declared.arrival.Arrival.TheVariants.{There}, Arrivals.{IsFirstArrival}, FmLevels.{word_lines}}
use Rattle.level_debuggers.specs.{GypsyLevels.{gypsy_up}, Levels.{LevelOf, has_places}, ScriptSteps.{AskForSteps, all_asked}}
use Rattle.level_debuggers.specs.{ScriptSteps.{steps_of_lines, stepped_lines, until_line, up_line, line_of_words}, Tallies.{Watching}}
use Rattle.level_debuggers.specs.{Transcripts.{arrival_text}, Walks.{walk}}
use Rattle.cli_stack.specs.{SessionMoments.{state_text, steps_at}, Answer.{Answer}, Decides.{IsReadyToRun}, FilesAndSizes.{IsReadable}}
use Rattle.command_line.specs.{declared.command.Command.{Command}, declared.command.Command.TheVariants.{Debug}}
use Rattle.command_line.specs.{declared.role.Role.TheVariants.{Script}, declared.words.reader.Level.{Level}}
use Rattle.command_line.specs.declared.words.reader.Level.TheVariants.{Gypsy, Piton, Fm9001}
use Rattle.command_replies.specs.declared.reply.Verdict.TheVariants.{Done}
use Rattle.stack_commands.specs.Commands.Debug.{lines_reply, run_in}

-- 1. Sessions and scripts.

-- How many steps a session makes to where the step machine is in a state. At the level of the source each step is one of the step
-- machine, and `up` has nothing to read.
abbrev pub steps_to : Level → State → Option ℕ
steps_to Gypsy g = None
steps_to Piton g = Some (steps_at g)
steps_to Fm9001 g = Some (spent_at g)

-- that so many steps lead to the end: of Piton's machine, or of the processor
abbrev pub LeadsToEnd : Level → Tally → ℕ → Type 0
LeadsToEnd Gypsy spent n = ⊥
LeadsToEnd Piton spent n = spent.steps ≤ n
LeadsToEnd Fm9001 spent n = spent.count ≤ n

-- a session of the source in a text, with these watches, carries out all these lines, and this is what it says to them
pub record SaysTo (level : Level) (text : List ℕ) (sizes : StackSizes) (values_text : List ℕ) (watches : List Watching)
    (lines : List Line) (said : List ℕ) : Type 0 where
  pub run : LevelOf
  pub begins : run_in level text sizes values_text ≡ Ok run
  pub done : (lines_reply run watches lines).verdict ≡ Done
  pub says : (lines_reply run watches lines).said ≡ said

-- the script has these lines, then this one, and then others
pub record Asks (files : Files) (name : List ℕ) (before : List Line) (line : Line) (after : List Line) : Type 0 where
  pub script : List ℕ
  pub there : IsReadable files Script name script
  pub lines : script_of script ≡ Ok (before ++ line ∷ after)

-- where the processor stands after so many instructions, or at the end where that comes before
pub record StandsAfter (n : ℕ) (first : Fm) (final : ℕ) (state : Fm) : Type 0 where
  pub made : ℕ
  pub within : made ≤ n
  pub reached : fm_run made first ≡ Ok state
  pub before : Avoids first final made
  pub last : (made ≡ n) ⊎ (pc_of state ≡ final)

-- a text begins with another
abbrev pub BeginsWith : List ℕ → List ℕ → Type 0
BeginsWith text first = (more : List ℕ) × (text ≡ first ++ more)

-- 2. What is said of the source.

-- Whatever lines come before an `up`, and are carried out: behind what is said to them comes what the source is at. So it is with
-- `words` and `until`.
pub record ExplainsRun (level : Level) (files : Files) (name source_name values_name : List ℕ) (sizes : StackSizes)
    (is : IsReadyToRun files source_name values_name sizes) (watches : List Watching) (answer : Answer) : Type 0 where
  -- where they lead as many steps as it takes to a state of the step machine: its active procedure, the place of what comes next, the
  -- condition, and the variables
  pub up : (before after : List Line) (said : List ℕ) (number j : ℕ) (g : State) → Asks files name before (up_line number) after
      → (to : SaysTo level is.built.text sizes is.values_text watches before said)
      → moment_from (program_of is.source) sizes is.values j ≡ Next g → steps_to level g ≡ Some (steps_of_lines before to.run)
      → BeginsWith answer.text (said ++ state_text is.source g)
  -- where they lead as many as it takes to the end, or more: the report's condition and variables
  pub up_at_end : (before after : List Line) (said : List ℕ) (number j : ℕ) (finals : List ValueOf) (way : CurrentCondition) (spent : Tally)
      → Asks files name before (up_line number) after → (to : SaysTo level is.built.text sizes is.values_text watches before said)
      → moment_from (program_of is.source) sizes is.values j ≡ Ended finals way spent
      → LeadsToEnd level spent (steps_of_lines before to.run)
      → BeginsWith answer.text (said ++ lines_of_reading is.image (meaning_shown is.source finals way))
  -- at the level of the source, whose listing has all of that, that there is nothing to read
  pub up_at_top : level ≡ Gypsy → (before after : List Line) (said : List ℕ) (number : ℕ) → Asks files name before (up_line number) after
      → SaysTo level is.built.text sizes is.values_text watches before said → BeginsWith answer.text (said ++ gypsy_up)
  -- to a line of `words`, at the level of the processor: so many words of its memory, in the state to which as many instructions as those
  -- lines lead take it from the loaded image
  pub words : level ≡ Fm9001 → (before after : List Line) (said : List ℕ) (number address count : ℕ) (state : Fm)
      → Asks files name before (line_of_words number address count) after
      → (to : SaysTo level is.built.text sizes is.values_text watches before said)
      → StandsAfter (steps_of_lines before to.run) (loaded is.image is.values) is.image.final_pc state
      → BeginsWith answer.text (said ++ word_lines state address count)
  -- to a line of `until`, where the run stands at the place first after k steps more, and that is not too far: that it has arrived
  pub until : (before after : List Line) (said : List ℕ) (number limit k : ℕ) (there : Place) (here : LevelOf)
      → Asks files name before (until_line number there limit) after
      → (to : SaysTo level is.built.text sizes is.values_text watches before said)
      → (walk (steps_of_lines before to.run) to.run).level ≡ here → has_places here there ≡ true → IsFirstArrival there k here → k ≤ limit
      → BeginsWith answer.text (said ++ arrival_text (There k))
  -- so at the level of the processor, where its r15 is an address first after k instructions more, and the end does not come before
  pub until_address : level ≡ Fm9001 → (before after : List Line) (said : List ℕ) (number address limit k : ℕ) (state there : Fm)
      → Asks files name before (until_line number (Number address) limit) after
      → (to : SaysTo level is.built.text sizes is.values_text watches before said)
      → StandsAfter (steps_of_lines before to.run) (loaded is.image is.values) is.image.final_pc state
      → IsFirst state address k there → Avoids state is.image.final_pc k → k ≤ limit
      → BeginsWith answer.text (said ++ arrival_text (There k))
  -- lines that ask for steps alone, as many as lead to a state, are carried out, and `stepped N` is said to each
  pub steps : (lines : List Line) (j : ℕ) (g : State) → AskForSteps lines
      → moment_from (program_of is.source) sizes is.values j ≡ Next g → steps_to level g ≡ Some (all_asked lines)
      → SaysTo level is.built.text sizes is.values_text watches lines (stepped_lines lines)

-- so `debug` says it, where all is ready
abbrev pub Explains : Command → List Watching → Files → Answer → Type 0
Explains (Debug level source_name values_name control temporary script_name) watches files answer =
    (is : IsReadyToRun files source_name values_name (stack_sizes control temporary)) →
    ExplainsRun level files script_name source_name values_name (stack_sizes control temporary) is watches answer
Explains _ watches files answer = Unit {0}
