-- What a session's `up` says where the step machine of the source has come to a state.
use Rattle.std.specs.Prelude.{◌≡◌, ◌≤◌, ℕ, List, IsTrue, Ok}
use Rattle.stack_text.specs.Values.{ValueOf}
use Rattle.fm_image.specs.Image.{ImageOf}
use Rattle.fm_loader.specs.Loaded.{loaded}
use Rattle.display_maps.specs.{ReadingAt.{reading_at_text}, Report.{lines_of_reading}}
use Rattle.piton_check.specs.PitonChecking.{CheckedOf}
use Rattle.piton_semantics.specs.{Fits.{system_in}, StateView.{opening}}
use Rattle.gypsy_syntax.specs.{Resolved.{program_of}, Sources.{SourceOf}}
use Rattle.gypsy_check.specs.Accepted.{IsAccepted}
use Rattle.gypsy_space.specs.{Needs.{StackSizes}, Costs.{Tally}}
use Rattle.gypsy_semantics.specs.{Calls.{CurrentCondition}, Machine.{State, At, Next, Ended}, Views.RunView.{spent_at}}
use Rattle.gypsy_codegen.specs.{Generated.{generated_view}, Moments.{moment_from}, Whole.{SizesFit}}
use Rattle.stack_build.specs.{Build.{BuiltOf, source_built}, Image.{image_of, places_fit}, Implements.{FitsFormals, meaning_shown}}
use Rattle.stack_build.specs.{Moments.{KeepsMoments}, SourceMoments.{moment_shown}, Starts.{main_words}}
use Rattle.level_debuggers.specs.{Levels.{LevelOf, Piton, Fm, up_text}, ScriptSteps.{SaysAfter}, Walks.{walk}}

-- the steps of Piton to a state; those of the processor are `spent_at`
abbrev pub steps_at : State → ℕ
steps_at (At p x w fs t) = t.steps

-- what is said of a state: the active procedure, the place of the top item, the condition, and the variables
abbrev pub state_text : SourceOf → State → List ℕ
state_text source g = reading_at_text (moment_shown source g)

-- 1. The processor.

-- the run of an image, loaded with values
abbrev pub image_run : ImageOf → List ValueOf → LevelOf
image_run image values = Fm record { image = image; state = loaded image values }

-- Where the step machine stands in a state, the run of an image that keeps to the source stands there too, after exactly the counted
-- instructions. It goes on, and says the state.
abbrev pub MachineSaysMoments : Type 0
MachineSaysMoments =
    (source : SourceOf) (sizes : StackSizes) (base j : ℕ) (values : List ValueOf) (g : State) → IsAccepted source →
    IsTrue (places_fit (program_of source)) → FitsFormals source values → KeepsMoments (image_of source sizes base) source sizes →
    moment_from (program_of source) sizes values j ≡ Next g →
    SaysAfter (spent_at g) (image_run (image_of source sizes base) values) (state_text source g)

-- 2. Piton's machine.

-- the run of a source's system, in the state whose stack has the words of main's variables
abbrev pub system_run : SourceOf → CheckedOf → ImageOf → List ValueOf → LevelOf
system_run source checked image values =
    Piton record { checked = checked; image = image; seen = opening (system_in checked) (main_words source values) }

-- So does the run of the source's system, after exactly the counted steps.
abbrev pub SystemSaysMoments : Type 0
SystemSaysMoments =
    (source : SourceOf) (sizes : StackSizes) (base j : ℕ) (checked : CheckedOf) (values : List ValueOf) (g : State) → IsAccepted source →
    SizesFit (program_of source) sizes → IsTrue (places_fit (program_of source)) → FitsFormals source values →
    system_in checked ≡ generated_view (program_of source) sizes base →
    moment_from (program_of source) sizes values j ≡ Next g →
    SaysAfter (steps_at g) (system_run source checked (image_of source sizes base) values) (state_text source g)

-- 3. What is built.

-- both runs say the state, each after its own steps
pub record BothSay (source : SourceOf) (built : BuiltOf) (values : List ValueOf) (g : State) : Type 0 where
  pub machine : SaysAfter (spent_at g) (image_run built.image values) (state_text source g)
  pub system : SaysAfter (steps_at g) (system_run source built.piton built.image values) (state_text source g)

abbrev pub BuiltSaysMoments : Type 0
BuiltSaysMoments =
    (source : SourceOf) (sizes : StackSizes) (j : ℕ) (built : BuiltOf) (values : List ValueOf) (g : State) → IsAccepted source →
    IsTrue (places_fit (program_of source)) → FitsFormals source values → source_built source sizes 0 ≡ Ok built →
    KeepsMoments built.image source sizes → moment_from (program_of source) sizes values j ≡ Next g → BothSay source built values g

-- Where the step machine comes to its end, the run of the source's system says the meaning, after the counted steps and after any more.
abbrev pub BuiltSaysEnds : Type 0
BuiltSaysEnds =
    (source : SourceOf) (sizes : StackSizes) (j n : ℕ) (built : BuiltOf) (values finals : List ValueOf) (way : CurrentCondition)
    (spent : Tally) → IsAccepted source → FitsFormals source values → source_built source sizes 0 ≡ Ok built →
    moment_from (program_of source) sizes values j ≡ Ended finals way spent → spent.steps ≤ n →
    up_text (walk n (system_run source built.piton built.image values)).level
    ≡ lines_of_reading built.image (meaning_shown source finals way)
