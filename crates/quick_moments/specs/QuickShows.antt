-- The machines that read as states of the step machine, when they run quick code.
use Rattle.std.specs.Prelude.{◌≡◌, ◌≤◌, ℕ, ◌-◌, List, [], ◌∷◌, Some, None, drop}
use Rattle.stack_text.specs.Values.{ValueOf}
use Rattle.fm_machine.specs.State.{Fm}
use Rattle.fm_code.specs.Execution.{Parts, AreParts}
use Rattle.gypsy_syntax.specs.{Programs.{ConditionOf}, ValuesFit.{VarsFit}}
use Rattle.gypsy_semantics.specs.{Calls.{CurrentCondition}, Machine.{Item, Do, Out, State, At}}
use Rattle.quick_gypsy.specs.{Layout.{Layout, IsLayout}, Quick.{Targets, signalled}, QuickRuns.{StandsWith}}
use Rattle.quick_moments.specs.QuickMarks.{work_size, quick_mark, StandsQuick, ArePlain}

-- Quick code in memory: the parts, what the registers from 5 to 14 hold, the layout of the variables, where the conditions go that main
-- ends with, the address behind the code of main's body, and the words of the control stack and of the areas, which the body leaves alone.
pub record Site : Type 0 where
  pub parts : Parts
  pub table : ℕ → ℕ
  pub layout : Layout
  pub targets : Targets
  pub end : ℕ
  pub ctrl : List ℕ
  pub areas : List ℕ

pub record IsSite (k : Site) : Type 0 where
  pub are_parts : AreParts k.parts
  pub is_layout : IsLayout k.parts k.table k.layout

-- a machine at this pc whose variables have these values, and the code of these items
pub record ReadsWork (k : Site) (m : Fm) (pc : ℕ) (x : List ValueOf) (w : List Item) : Type 0 where
  pub stands : StandsWith k.parts k.table k.ctrl m pc x k.areas
  pub fits : VarsFit k.layout.shapes x
  pub room : work_size k.layout w ≤ k.end
  pub code : StandsQuick k.parts k.layout k.targets (k.end - work_size k.layout w) w
  pub plain : ArePlain k.layout.shapes w

-- the items that are still to run if no condition is under way: none, if a condition leaves main
abbrev pub still_ahead : List Item → List Item
still_ahead (Out c ∷ w) = []
still_ahead w = w

-- the top item is an arm that only signals this condition
abbrev pub IsArm : ConditionOf → List Item → Type 0
IsArm d (Do s ∷ w) = signalled s ≡ Some d
IsArm d w = ⊥

-- The machine reads as this state of the step machine, in which no activation waits. What is under way is the condition of an arm
-- without code, if such an arm is the top item.
abbrev pub ShowsQuick : Site → Fm → CurrentCondition → State → Type 0
ShowsQuick k m None (At p x w [] t) = ReadsWork k m (quick_mark k.layout k.targets k.end None w) x (still_ahead w)
ShowsQuick k m (Some d) (At p x w [] t) =
    IsArm d w × ReadsWork k m (quick_mark k.layout k.targets k.end (Some d) w) x (drop 1 w)
ShowsQuick k m under_way (At p x w (f ∷ fs) t) = ⊥
