-- The words of the generated code on the processor.
use Rattle.std.specs.Prelude.{◌≡◌, ℕ, ◌<◌, length}
use Rattle.piton_semantics.specs.{State.{program_of}, Placed.{program_size}}
use Rattle.gypsy_syntax.specs.{Programs.{Program}, ProgramFits.{ProgramFits}}
use Rattle.gypsy_space.specs.Needs.{StackSizes, code_words}
use Rattle.gypsy_codegen.specs.Generated.{generated_view}

-- each procedure takes its code words
abbrev pub ProceduresTakeWords : Type 0
ProceduresTakeWords = (q : Program) (sizes : StackSizes) (base p : ℕ) → ProgramFits q → p < length q.procs →
    program_size (program_of (generated_view q sizes base) p) ≡ code_words q p
