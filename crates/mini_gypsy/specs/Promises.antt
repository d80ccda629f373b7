-- What is promised of the lowering.
use Rattle.std.specs.Prelude.{◌≡◌, ◌+◌, ◌*◌, ◌≤◌, ℕ, List, length, ◌↔◌}
use Rattle.stack_text.specs.Values.{ValueOf}
use Rattle.gypsy_syntax.specs.{GypsyReading.{ReadsAs}, Printed.{gypsy_text}, Resolved.{program_of}, Sources.{SourceOf}}
use Rattle.gypsy_syntax.specs.Programs as gypsy
use Rattle.gypsy_space.specs.Needs.{StackSizes}
use Rattle.gypsy_semantics.specs.{Calls.{CurrentCondition}, Views.Fitting.{CanStart}, Meaning.{Done, meaning}}
use Rattle.mini_syntax.specs.{MiniReading.{IsFaultless}, Breaches.{body_of, declared_of}, Grammar.{InfixProgram}, Language.{Stmt}}
use Rattle.mini_gypsy.specs.{Lowered.{lowered}, Meant.{program_run}}

-- for all values and sizes with which a run can start, and every bound, the program of Micro-Gypsy is done exactly where the program of
-- the infix language is, and in the same way; in fact its meaning is the run
pub record MeansSame (q : gypsy.Program) (s : Stmt) : Type 0 where
  pub done : (sizes : StackSizes) (v : List ValueOf) (n : ℕ) (x : List ValueOf) (c : CurrentCondition) → CanStart q v sizes →
      (meaning q sizes v n ≡ Done x c) ↔ (program_run s v n ≡ Done x c)
  pub equal : (sizes : StackSizes) (v : List ValueOf) (n : ℕ) → CanStart q v sizes → meaning q sizes v n ≡ program_run s v n

-- the text has no fault, and the source is what its program becomes: it means the same, its text is read again, and isn't long
pub record Lowers (text : List ℕ) (s : SourceOf) : Type 0 where
  pub program : InfixProgram
  pub faultless : IsFaultless text program
  pub source : s ≡ lowered (declared_of program) (body_of program)
  pub means : MeansSame (program_of s) (body_of program)
  pub again : ReadsAs (gypsy_text s) s
  pub short : length (gypsy_text s) ≤ 60 * length text + 2000
