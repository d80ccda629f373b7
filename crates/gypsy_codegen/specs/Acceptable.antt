-- What is known of the generated system as a text.
use Rattle.std.specs.Prelude.{◌≡◌, ◌<◌, get_or, ℕ, ◌+◌, ◌≤◌, ◌^◌, List, [], ◌∷◌, length}
use Rattle.fm_words.specs.WindowLimit.{most_window}
use Rattle.stack_text.specs.{SharedLimits.{most_stack}, Values.{ValueOf}}
use Rattle.piton_semantics.specs.StateView.{started}
use Rattle.piton_syntax.specs.PitonReading.{KeepsForm}
use Rattle.piton_check.specs.{Violations.{violations}, Resolved.{resolved}, Instruction.{system_view}, Sound.{IsSound}}
use Rattle.gypsy_syntax.specs.{Sources.{ProcOf, SourceOf}, Programs.{Program, proc_at}, Resolved.{variable_names, procedure_of, program_of}}
use Rattle.gypsy_syntax.specs.ValuesFit.{VarsFit}
use Rattle.gypsy_check.specs.Accepted.{IsAccepted}
use Rattle.gypsy_space.specs.{Costs.{Tally}, Needs.{StackSizes, code_words}}
use Rattle.gypsy_semantics.specs.{Calls.{CurrentCondition, main_start}, Meaning.{Done, meaning}, Counted.{CountedDone, counted_meaning}}
use Rattle.gypsy_codegen.specs.{Generated.{generated_view, count_from, offset}, Text.{frame_texts, generated}, WordsOf.{words_of_values}}
use Rattle.gypsy_codegen.specs.Whole.{SizesFit, RunsTo}

-- the words of code of procedures together
abbrev pub code_words_of : Program → List ℕ → ℕ
code_words_of q [] = 0
code_words_of q (p ∷ ps) = code_words q p + code_words_of q ps

abbrev pub total_words : Program → ℕ
total_words q = code_words_of q (count_from 0 (length q.procs))

-- the sizes cover main's own need, and sizes, base and code are within their limits
pub record LimitsFit (q : Program) (sizes : StackSizes) (base : ℕ) : Type 0 where
  pub sizes_fit : SizesFit q sizes
  pub few_ctrl : sizes.ctrl ≤ most_stack
  pub low_base : base ≤ 2 ^ 31
  pub few_words : total_words q ≤ most_window

-- it keeps the form, breaks no rule, and is seen as the system by places, which is sound
pub record IsAcceptable (s : SourceOf) (sizes : StackSizes) (base : ℕ) : Type 0 where
  pub form : KeepsForm (generated s sizes base)
  pub rules : violations (generated s sizes base) ≡ []
  pub view : system_view (resolved (generated s sizes base)) ≡ generated_view (program_of s) sizes base
  pub sound : IsSound (generated_view (program_of s) sizes base)

-- the system of an accepted source is acceptable
abbrev pub GeneratedIsAcceptable : Type 0
GeneratedIsAcceptable = (s : SourceOf) (sizes : StackSizes) (base : ℕ) → IsAccepted s → LimitsFit (program_of s) sizes base →
    IsAcceptable s sizes base

-- the name that is written for a variable is the variable's
abbrev pub VariablesKeepNames : Type 0
VariablesKeepNames = (s : SourceOf) (q : Program) (p : ℕ) (proc : ProcOf) (v : ℕ) → proc_at q p ≡ procedure_of s proc →
    v < length (variable_names proc) → get_or (frame_texts q p proc) (offset q p v) [] ≡ get_or (variable_names proc) v []

-- Micro-Gypsy runs on Piton: where the meaning of an accepted source is done, the system that its text resolves to, with the
-- values' words at the bottom of its first stack, first halts with the same, in the counted steps and at the counted cost.
abbrev pub SourceRuns : Type 0
SourceRuns = (s : SourceOf) (sizes : StackSizes) (base : ℕ) (v : List ValueOf) (n : ℕ) (x : List ValueOf) (c : CurrentCondition) →
    IsAccepted s → LimitsFit (program_of s) sizes base →
    let q = program_of s in
    let system = system_view (resolved (generated s sizes base)) in
    VarsFit (proc_at q q.main).formals v → meaning q sizes v n ≡ Done x c →
    (t : Tally) × (counted_meaning q sizes v n ≡ CountedDone x c t) ×
    RunsTo system (started system (words_of_values (main_start q v))) x c t
