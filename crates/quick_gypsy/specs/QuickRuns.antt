-- What is proved of quick code: it does what the statement means, in exactly the counted instructions.
use Rattle.std.specs.Prelude.{◌≡◌, ℕ, ◌+◌, ◌≤◌, List, Ok, Some, None}
use Rattle.stack_text.specs.Values.{ValueOf}
use Rattle.fm_words.specs.declared.condition.Flags.{Flags}
use Rattle.fm_machine.specs.{State.{Fm}, Run.{fm_run, Avoids}}
use Rattle.fm_code.specs.Execution.{Parts, AreParts, CodeAt, final_pc}
use Rattle.gypsy_syntax.specs.{Programs.{Program, Stmt}, ValuesFit.{VarsFit}}
use Rattle.gypsy_space.specs.Needs.{StackSizes}
use Rattle.gypsy_semantics.specs.{Calls.{CurrentCondition}, Meaning.{Done, Unfinished, evaluate}}
use Rattle.quick_code.specs.Moments.{now, Stands, Comes}
use Rattle.quick_gypsy.specs.{Numbers.{numbers_of}, Layout.{Layout, IsLayout}, Quick.{Targets, size, quick, quick_cost, IsPlain}}

-- a machine at this pc whose variables have these values; r3, r4 and the flags may be anything
pub record StandsWith (P : Parts) (table : ℕ → ℕ) (ctrl : List ℕ) (s : Fm) (pc : ℕ) (x : List ValueOf) (areas : List ℕ) :
    Type 0 where
  pub x3 : ℕ
  pub fl : Flags
  pub stands : Stands P table ctrl s pc (now x3 fl (numbers_of x) areas)

pub record ComesWith (P : Parts) (table : ℕ → ℕ) (ctrl : List ℕ) (k : ℕ) (s : Fm) (pc : ℕ) (x : List ValueOf)
    (areas : List ℕ) : Type 0 where
  pub x3 : ℕ
  pub fl : Flags
  pub comes : Comes P table ctrl k s pc (now x3 fl (numbers_of x) areas)

-- behind the code in the normal condition, else at the condition's target
abbrev pub goal_of : Targets → ℕ → CurrentCondition → ℕ
goal_of T behind None = behind
goal_of T behind (Some c) = T c

abbrev pub StatementsRun : Type 0
StatementsRun = (P : Parts) (table : ℕ → ℕ) (L : Layout) (q : Program) (sizes : StackSizes) (n : ℕ) (s : Stmt) (u : StackSizes)
    (x y : List ValueOf) (c : CurrentCondition) (T : Targets) (pc : ℕ) (ctrl areas : List ℕ) (m : Fm) →
    AreParts P → IsLayout P table L → IsPlain L.shapes s → VarsFit L.shapes x →
    CodeAt P pc (quick L T pc s) → StandsWith P table ctrl m pc x areas → evaluate q sizes n s u x ≡ Done y c →
    ComesWith P table ctrl (quick_cost q sizes L n s u x) m (goal_of T (pc + size L s) c) y areas

-- at least n steps lead from m somewhere in the window, and before that the pc was never the final one
pub record GoesOn (P : Parts) (n : ℕ) (m : Fm) : Type 0 where
  pub steps : ℕ
  pub state : Fm
  pub least : n ≤ steps
  pub runs : fm_run steps m ≡ Ok state
  pub avoids : Avoids m (final_pc P) steps

-- where the meaning isn't done at a bound, the code isn't done within so many instructions
abbrev pub StatementsGoOn : Type 0
StatementsGoOn = (P : Parts) (table : ℕ → ℕ) (L : Layout) (q : Program) (sizes : StackSizes) (n : ℕ) (s : Stmt) (u : StackSizes)
    (x : List ValueOf) (T : Targets) (pc : ℕ) (ctrl areas : List ℕ) (m : Fm) →
    AreParts P → IsLayout P table L → IsPlain L.shapes s → VarsFit L.shapes x →
    CodeAt P pc (quick L T pc s) → StandsWith P table ctrl m pc x areas → evaluate q sizes n s u x ≡ Unfinished → GoesOn P n m
