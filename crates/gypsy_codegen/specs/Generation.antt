-- What generating returns, and what is known of a generated system.
use Rattle.std.specs.Prelude.{◌≡◌, ℕ, ◌<◌, List, length, Bool, not, ◌&&◌, nat_le, nat_lt, if◌then◌else◌, Option, Some, None, Result}
use Rattle.stack_text.specs.{Results.{unless_fault}, SharedLimits.{most_stack}, Values.{ValueOf}}
use Rattle.fm_words.specs.WindowLimit.{most_window}
use Rattle.stack_text.specs.Gives as common
use Rattle.piton_syntax.specs.Systems.{SystemOf}
use Rattle.piton_check.specs.PitonChecking.{CheckedOf}
use Rattle.piton_semantics.specs.State as state
use Rattle.piton_semantics.specs.{Placed.{program_size}, Fits.{system_in}, StateView.{started}}
use Rattle.gypsy_syntax.specs.{Sources.{SourceOf}, Programs.{Program, proc_at}, Resolved.{program_of}, ValuesFit.{VarsFit}}
use Rattle.gypsy_space.specs.{Costs.{Tally}, Needs.{StackSizes, code_words, main_need}}
use Rattle.gypsy_semantics.specs.{Calls.{CurrentCondition, main_start}, Meaning.{Done, meaning}, Counted.{CountedDone, counted_meaning}}
use Rattle.gypsy_codegen.specs.{declared.fault.GenFault.{GenFault}, declared.fault.GenFault.TheVariants.{Control, Temporary, Size}}
use Rattle.gypsy_codegen.specs.{declared.fault.GenFault.TheVariants.{Words as TooManyWords, Memory}, WordsOf.{words_of_values}}
use Rattle.gypsy_codegen.specs.{Generated.{generated_view}, Text.{generated}, Whole.{RunsTo}, Moments.{moment_from, HasMoment}}
use Rattle.gypsy_codegen.specs.Acceptable.{total_words, LimitsFit}

-- out of memory is no fault of a source
abbrev pub fault_of : GenFault → Option GenFault
fault_of Memory = None
fault_of fault = Some fault

-- the call returned exactly what the definition gives, seen through the view; memory runs out only where it was refused
abbrev pub GivesGeneratedUnless : {X Y : Type 0} → Type 0 → (X → Y) → Result X GenFault → Result Y GenFault → Type 0
GivesGeneratedUnless refused view result value = common.GivesUnless refused fault_of view result value

-- each stack has 1 to 65,536 words
abbrev pub are_sizes : StackSizes → Bool
are_sizes sizes = nat_le 1 sizes.ctrl && nat_le sizes.ctrl most_stack && nat_le 1 sizes.temp && nat_le sizes.temp most_stack

-- the first limit that sizes of the stacks or the words of the code are outside of
unfoldable pub size_fault : Program → StackSizes → Option GenFault
size_fault q sizes =
    if not (are_sizes sizes) then Some Size else
    if nat_lt sizes.ctrl (main_need q).ctrl then Some (Control (main_need q).ctrl) else
    if nat_lt sizes.temp (main_need q).temp then Some (Temporary (main_need q).temp) else
    if nat_lt most_window (total_words q) then Some (TooManyWords (total_words q)) else None

-- the system of a source, with these sizes of the stacks and this base, or why there is none
abbrev pub generation : SourceOf → StackSizes → ℕ → Result SystemOf GenFault
generation s sizes base = unless_fault (size_fault (program_of s) sizes) (generated s sizes base)

-- Micro-Gypsy runs on Piton: where the meaning of the source is done, the checked system, with the values' words at the bottom of
-- its first stack, first halts with the same, in the counted steps and at the counted cost.
abbrev pub SystemRunsAs : SourceOf → StackSizes → CheckedOf → Type 0
SystemRunsAs s sizes checked =
    (v : List ValueOf) (n : ℕ) (x : List ValueOf) (c : CurrentCondition) →
    let q = program_of s in
    VarsFit (proc_at q q.main).formals v → meaning q sizes v n ≡ Done x c →
    (t : Tally) × (counted_meaning q sizes v n ≡ CountedDone x c t) ×
    RunsTo (system_in checked) (started (system_in checked) (words_of_values (main_start q v))) x c t

-- Every moment of a run of the source is one of the checked system: at the mark of the top item, after the counted steps and at the
-- counted cost, or halted where the step machine has ended.
abbrev pub SystemKeepsMoments : SourceOf → StackSizes → CheckedOf → Type 0
SystemKeepsMoments s sizes checked =
    (v : List ValueOf) (j : ℕ) →
    let q = program_of s in
    VarsFit (proc_at q q.main).formals v →
    HasMoment q (system_in checked) (started (system_in checked) (words_of_values (main_start q v))) (moment_from q sizes v j)

-- the program of each procedure takes as many words on the processor as are counted for it
abbrev pub TakesCodeWords : SourceOf → CheckedOf → Type 0
TakesCodeWords s checked =
    let q = program_of s in
    (p : ℕ) → p < length q.procs → program_size (state.program_of (system_in checked) p) ≡ code_words q p

-- the checked system is the source's by places, it runs as the source means, at every moment too, and all sizes are within their
-- limits
pub record SystemImplements (s : SourceOf) (sizes : StackSizes) (base : ℕ) (checked : CheckedOf) : Type 0 where
  pub view : system_in checked ≡ generated_view (program_of s) sizes base
  pub runs : SystemRunsAs s sizes checked
  pub moments : SystemKeepsMoments s sizes checked
  pub limits : LimitsFit (program_of s) sizes base
