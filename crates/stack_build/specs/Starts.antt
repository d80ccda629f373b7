-- Where runs of a source on values begin, at each level.
use Rattle.std.specs.Prelude.{◌≡◌, ◌≤◌, ℕ, List, length, drop, ◌++◌, Option, Some, None, Result, Ok, Err, nat_lt, if◌then◌else◌}
use Rattle.fm_words.specs.WindowLimit.{most_window}
use Rattle.stack_text.specs.Gives as common
use Rattle.stack_text.specs.{Results.{◌>>=◌}, Values.{ValueOf}}
use Rattle.fm_machine.specs.State.{Fm}
use Rattle.fm_image.specs.Image.{ImageOf}
use Rattle.fm_loader.specs.{declared.fault.ValuesFault.{ValuesFault}, Loaded.{loaded}, Values.{values_in}}
use Rattle.fm_loader.specs.declared.fault.ValuesFault.TheVariants as values
use Rattle.piton_words.specs.declared.word.Word.{Word}
use Rattle.piton_check.specs.PitonChecking.{CheckedOf}
use Rattle.piton_semantics.specs.{Fits.{IsInitialStack, system_in}, Placed.{placed}, StateView.{opening as piton_opening}}
use Rattle.gypsy_syntax.specs.{Sources.{SourceOf}, Resolved.{program_of}}
use Rattle.gypsy_space.specs.Needs.{StackSizes, main_need}
use Rattle.gypsy_semantics.specs.{Calls.{main_start}, Views.RunView.{Seen, opening}}
use Rattle.gypsy_codegen.specs.WordsOf.{words_of_values}
use Rattle.stack_build.specs.{declared.fault.BuildFault.{BuildFault}, Build.{BuiltOf, source_built}, Image.{formal_slots}}
use Rattle.stack_build.specs.{declared.built_starts.SystemStart.{SystemStart}, declared.start_fault.StartFault.{StartFault}}
use Rattle.stack_build.specs.declared.start_fault.StartFault.TheVariants.{Build, Values}
use Rattle.stack_build.specs.declared.fault.BuildFault.TheVariants as build

-- 1. Faults.

-- a fault of the values is one of the start
abbrev pub values_fault : ValuesFault → StartFault
values_fault (values.Refused rule place) = Values rule place
values_fault values.Memory = Build build.Memory

-- out of memory is no fault of a source
abbrev pub start_fault_of : StartFault → Option StartFault
start_fault_of (Build build.Memory) = None
start_fault_of fault = Some fault

-- the call returned exactly what the definition gives, seen through the view; memory runs out only where it was refused
abbrev pub GivesStartUnless : {X Y : Type 0} → Type 0 → (X → Y) → Result X StartFault → Result Y StartFault → Type 0
GivesStartUnless refused view result value = common.GivesUnless refused start_fault_of view result value

-- the same of callers that pass the library's heap, of which nothing says when it refuses
abbrev pub GivesStart : {X Y : Type 0} → (X → Y) → Result X StartFault → Result Y StartFault → Type 0
GivesStart view result value = GivesStartUnless (Unit {0}) view result value

-- what is built, or why nothing is
abbrev pub or_build : {X : Type 0} → Result X BuildFault → Result X StartFault
or_build (Ok built) = Ok built
or_build (Err fault) = Err (Build fault)

-- the values of a text, or the rule that it breaks, and where
abbrev pub or_values : Result (List ValueOf) (ℕ × ℕ) → Result (List ValueOf) StartFault
or_values (Ok values) = Ok values
or_values (Err fault) = Err (Values fault.0 fault.1)

-- 2. The source's own steps.

-- which of the stacks is smaller than main itself needs, and what it needs
abbrev pub shortage_of : StackSizes → StackSizes → Option BuildFault
shortage_of need sizes =
    if nat_lt sizes.ctrl need.ctrl then Some (build.Control need.ctrl)
    else (if nat_lt sizes.temp need.temp then Some (build.Temporary need.temp) else None)

abbrev pub unless_short : {X : Type 0} → Option BuildFault → Result X StartFault → Result X StartFault
unless_short None start = start
unless_short (Some shortage) start = Err (Build shortage)

-- the first state, on the values that a text gives main's formals
unfoldable pub gypsy_start : SourceOf → StackSizes → List ℕ → Result Seen StartFault
gypsy_start source sizes text =
    unless_short (shortage_of (main_need (program_of source)) sizes)
    (or_values (values_in (formal_slots source) text) >>= λ values. Ok (opening (program_of source) sizes values))

-- 3. What is built of the source.

-- the Piton system and the image that are built, and the values that a text gives the image's slots
pub record Start : Type 0 where
  pub checked : CheckedOf
  pub image : ImageOf
  pub values : List ValueOf

abbrev pub with_text : List ℕ → BuiltOf → Result Start StartFault
with_text text built =
    or_values (values_in built.image.slots text)
    >>= λ values. Ok record { checked = built.piton; image = built.image; values = values }

unfoldable pub built_start : SourceOf → StackSizes → List ℕ → Result Start StartFault
built_start source sizes text = or_build (source_built source sizes 0) >>= with_text text

-- an initial stack with the words of values at its bottom, in place of its own
abbrev pub with_values : List ValueOf → List Word → List Word
with_values values stack = words_of_values values ++ drop (length (words_of_values values)) stack

-- The words of main's variables, its formals with the values.
abbrev pub main_words : SourceOf → List ValueOf → List Word
main_words source values = words_of_values (main_start (program_of source) values)

-- The system has a place in memory, and the words of main's variables are a stack with which a run of it may begin.
pub record CanRun (source : SourceOf) (start : Start) : Type 0 where
  pub small : (placed (system_in start.checked)).size ≤ most_window
  pub words : with_values start.values (system_in start.checked).stack ≡ main_words source start.values
  pub initial : IsInitialStack (system_in start.checked) (main_words source start.values)

-- the system in the state whose stack has the words of main's variables
abbrev pub system_from : SourceOf → Start → SystemStart
system_from source start = record {
  checked = start.checked;
  image = start.image;
  state = piton_opening (system_in start.checked) (main_words source start.values);
}

unfoldable pub system_start : SourceOf → StackSizes → List ℕ → Result SystemStart StartFault
system_start source sizes text = built_start source sizes text >>= λ start. Ok (system_from source start)

-- the image, and the machine that is loaded with it and the values
unfoldable pub image_start : SourceOf → StackSizes → List ℕ → Result (ImageOf × Fm) StartFault
image_start source sizes text =
    built_start source sizes text >>= λ start. Ok (start.image, loaded start.image start.values)
