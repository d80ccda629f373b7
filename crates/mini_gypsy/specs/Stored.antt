-- The source that a text of the infix language becomes, and that what is stored of it means what the program does.
use Rattle.std.specs.Prelude.{◌≡◌, ℕ, List, [], Result, Ok, Err}
use Rattle.stack_text.specs.{declared.breach.Breach.{Breach}, Values.{ValueOf}}
use Rattle.gypsy_syntax.specs.{GypsyReading.{gypsy_in}, Places.{without_places}, Printed.{gypsy_text}, Programs.{proc_at}}
use Rattle.gypsy_syntax.specs.{Resolved.{program_of}, Sources.{SourceOf}, ValuesFit.{VarsFit}}
use Rattle.gypsy_syntax.specs.Programs as gypsy
use Rattle.gypsy_check.specs.Rules.{violations}
use Rattle.gypsy_space.specs.Needs.{StackSizes}
use Rattle.gypsy_semantics.specs.Meaning.{meaning}
use Rattle.mini_syntax.specs.{MiniReading.{TextReading, faultless, faulty}, Breaches.{body_of, declared_of}, Grammar.{InfixProgram}}
use Rattle.mini_syntax.specs.Language.{Stmt}
use Rattle.mini_gypsy.specs.{Meant.{program_run}, Lowered.{lowered}}

-- the source that a program becomes
abbrev pub source_for : InfixProgram → SourceOf
source_for program = lowered (declared_of program) (body_of program)

-- that of a text, or the rule that the text breaks, and where
abbrev pub lowering_by : {text : List ℕ} → TextReading text → Result SourceOf Breach
lowering_by (faultless program is) = Ok (source_for program)
lowering_by (faulty breach is) = Err breach

-- what is stored of a program
abbrev pub stored_text : InfixProgram → List ℕ
stored_text program = gypsy_text (source_for program)

-- on all values that fit, with stacks of any sizes and at every bound, the program of Micro-Gypsy means what the infix program does
abbrev pub MeansAlways : gypsy.Program → Stmt → Type 0
MeansAlways q s =
    (sizes : StackSizes) (v : List ValueOf) (n : ℕ) → VarsFit (proc_at q q.main).formals v → meaning q sizes v n ≡ program_run s v n

-- The text is read as a source that breaks no static rule. But for places it is the one that the program becomes, and it means what the
-- program does.
pub record StandsFor (text : List ℕ) (program : InfixProgram) : Type 0 where
  pub source : SourceOf
  pub read : gypsy_in text ≡ Ok source
  pub rules : violations source ≡ []
  pub same : without_places source ≡ without_places (source_for program)
  pub means : MeansAlways (program_of source) (body_of program)
