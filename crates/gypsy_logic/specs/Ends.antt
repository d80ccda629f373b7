-- How statements about programs are said: what a statement ends with, and what its parts have to end with for that.
use Rattle.std.specs.Prelude.{◌≡◌, ℕ, ◌<◌, List, ◌++◌, Bool, true, false, Some, None, length, take, get_or, slice_set, nat_lt}
use Rattle.std.specs.Prelude.{if◌then◌else◌}
use Rattle.stack_text.specs.Values.{ValueOf}
use Rattle.gypsy_syntax.specs.Programs.{ConditionOf, Leave, Routine, Space, Declared, Arg, Program, Stmt, proc_at, body_of}
use Rattle.gypsy_syntax.specs.Effects.{Effect, Normal, Fault, Beyond}
use Rattle.gypsy_space.specs.Needs.{StackSizes, with_call}
use Rattle.gypsy_semantics.specs.{Calls.{CurrentCondition, has_cond, target_of, copied_out}, Meaning.{Done, meaning}}
use Rattle.gypsy_logic.specs.Runs.{Runs}

-- what is said of variables
abbrev pub Condition : Type 1
Condition = List ValueOf → Type 0

-- what is said of the variables and the condition that a statement ends with; each condition is an exit of its own
abbrev pub Exit : Type 1
Exit = List ValueOf → CurrentCondition → Type 0

-- From the variables x, the statement ends, with variables and a condition of which Q holds.
pub record Ends (q : Program) (sizes u : StackSizes) (s : Stmt) (x : List ValueOf) (Q : Exit) : Type 0 where
  pub vars : List ValueOf
  pub way : CurrentCondition
  pub runs : Runs q sizes u s x vars way
  pub holds : Q vars way

-- {P} s {Q}, for total correctness: from all variables of which P holds, the statement ends with what Q says.
abbrev pub Triple : Program → StackSizes → StackSizes → Condition → Stmt → Exit → Type 0
Triple q sizes u P s Q = (x : List ValueOf) → P x → Ends q sizes u s x Q

-- after a first part: the next one in the normal condition, and any other passes on
abbrev pub Then : Condition → Exit → Exit
Then Next Q y None = Next y
Then Next Q y (Some c) = Q y (Some c)

abbrev pub Either : Bool → Type 0 → Type 0 → Type 0
Either true A B = A
Either false A B = B

-- after the body of a handler: the arm where the condition is in the list, and any other passes on
abbrev pub Handled : List ConditionOf → Condition → Exit → Exit
Handled cs Arm Q y None = Q y None
Handled cs Arm Q y (Some c) = Either (has_cond c cs) (Arm y) (Q y (Some c))

-- after a round of a loop: the next one in the normal condition; `leave` ends the loop in the normal one; any other passes on
abbrev pub Round : Condition → Exit → Exit
Round Next Q y None = Next y
Round Next Q y (Some Leave) = Q y None
Round Next Q y (Some Routine) = Q y (Some Routine)
Round Next Q y (Some Space) = Q y (Some Space)
Round Next Q y (Some (Declared i)) = Q y (Some (Declared i))

-- the invariant again, with a smaller measure
abbrev pub Again : (ℕ → Condition) → ℕ → Condition
Again I n y = (m : ℕ) × (m < n) × I m y

-- The variables are those of some state with the measure n: where a loop's variables are written out from what is known of them.
abbrev pub Stands : (State : ℕ → Type 0) → ((n : ℕ) → State n → List ValueOf) → ℕ → Condition
Stands State vars n y = (a : State n) × (y ≡ vars n a)

-- the condition of the caller, where procedure p ends with this: the matching one of the list for a formal condition, spaceerror
-- for itself, and routineerror for any other
abbrev pub passed : Program → ℕ → List ConditionOf → CurrentCondition → CurrentCondition
passed q p cs None = None
passed q p cs (Some Leave) = Some Routine
passed q p cs (Some Routine) = Some Routine
passed q p cs (Some Space) = Some Space
passed q p cs (Some (Declared i)) = Some (if nat_lt i (proc_at q p).conds then get_or cs i Routine else Routine)

-- the condition of the program, where main ends with this: a formal one, spaceerror, or routineerror for any other
abbrev pub ended : Program → CurrentCondition → CurrentCondition
ended q None = None
ended q (Some Leave) = Some Routine
ended q (Some Routine) = Some Routine
ended q (Some Space) = Some Space
ended q (Some (Declared i)) = Some (if nat_lt i (proc_at q q.main).conds then Declared i else Routine)

-- after the body of a callee: the caller's variables, with the formals' values put back, and the caller's condition
abbrev pub Returned : Program → ℕ → List ℕ → List ConditionOf → List ValueOf → Exit → Exit
Returned q p xs cs x Q y c = Q (copied_out xs y x) (passed q p cs c)

-- after a predefined call: its first argument is written, or the condition is routineerror
abbrev pub Applied : List Arg → List ValueOf → Exit → Effect → Type 0
Applied args x Q (Normal v) = Q (slice_set x (target_of args) v) None
Applied args x Q Fault = Q x (Some Routine)
Applied args x Q Beyond = Q x (Some Routine)

-- what a caller may know of a procedure: of the words in use and the formals' values when it is called
abbrev pub Entry : Type 1
Entry = StackSizes → List ValueOf → Type 0

-- and of the formals' values at its start and at its end, and the condition
abbrev pub Outcome : Type 1
Outcome = List ValueOf → List ValueOf → CurrentCondition → Type 0

-- the variables of a procedure at its start, from the values of its formals
abbrev pub opened : Program → ℕ → List ValueOf → List ValueOf
opened q p v = v ++ (proc_at q p).locals

-- the values of its formals among those of its variables
abbrev pub formals_of : Program → ℕ → List ValueOf → List ValueOf
formals_of q p y = take (length (proc_at q p).formals) y

-- the contract of a procedure: wherever Pre holds, its body ends, and Post holds
pub record Meets (q : Program) (sizes : StackSizes) (p : ℕ) (Pre : Entry) (Post : Outcome) : Type 0 where
  pub ends : (u : StackSizes) (v : List ValueOf) → Pre u v →
      Ends q sizes (with_call q p u) (body_of q p) (opened q p v) (λ y c. Post v (formals_of q p y) c)

-- called with these values, and with these words in use
abbrev pub Given : List ValueOf → (StackSizes → Type 0) → Entry
Given v Room u w = (w ≡ v) × Room u

-- whatever words are in use
abbrev pub AnyRoom : StackSizes → Type 0
AnyRoom u = Unit {0}

-- these values at the end, and this condition
abbrev pub Gives : List ValueOf → CurrentCondition → Outcome
Gives w c v y d = (y ≡ w) × (d ≡ c)

-- after the body of main
abbrev pub MainEnds : Program → Exit → Exit
MainEnds q Q y c = Q (formals_of q q.main y) (ended q c)

-- these variables, and this condition
abbrev pub Is : List ValueOf → CurrentCondition → Exit
Is x c y d = (y ≡ x) × (d ≡ c)

-- The meaning of the program on the values v is done, with values of main's formals and a condition of which Q holds.
pub record Means (q : Program) (sizes : StackSizes) (v : List ValueOf) (Q : Exit) : Type 0 where
  pub finals : List ValueOf
  pub way : CurrentCondition
  pub bound : ℕ
  pub done : meaning q sizes v bound ≡ Done finals way
  pub holds : Q finals way
