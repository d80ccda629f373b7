-- What every state of the step machine keeps of the words that are left, whatever the program.
use Rattle.std.specs.Prelude.{ℕ, ◌+◌, ◌≤◌, List, [], ◌∷◌}
use Rattle.gypsy_syntax.specs.Programs.{Proc, Program, proc_at, Stmt}
use Rattle.gypsy_space.specs.Needs.{StackSizes, main_need, statement_temp, statement_ctrl, temp_need, ctrl_need}
use Rattle.gypsy_semantics.specs.Machine.{Item, Do, Back, JoinThen, JoinOne, Guard, Out, Frame, Held, State, At, Move, Next, Ended, used}

-- the procedure's needs cover the calls of the statement
abbrev pub Covers : Proc → Stmt → Type 0
Covers p s = (statement_temp s ≤ temp_need p) × (statement_ctrl s ≤ ctrl_need p)

-- and those of its work
abbrev pub CoversWork : Proc → List Item → Type 0
CoversWork p [] = Unit {0}
CoversWork p (Do s ∷ w) = Covers p s × CoversWork p w
CoversWork p (Back place s ∷ w) = Covers p s × CoversWork p w
CoversWork p (JoinThen place v ∷ w) = CoversWork p w
CoversWork p (JoinOne place ∷ w) = CoversWork p w
CoversWork p (Guard place cs v ∷ w) = Covers p v × CoversWork p w
CoversWork p (Out c ∷ w) = CoversWork p w

-- with the words in use, both stacks have room for what the procedure's own calls need
abbrev pub HasWords : Program → StackSizes → ℕ → StackSizes → Type 0
HasWords q sizes p u = (u.temp + temp_need (proc_at q p) ≤ sizes.temp) × (u.ctrl + ctrl_need (proc_at q p) ≤ sizes.ctrl)

-- from an activation of p downwards
abbrev pub HaveWords : Program → StackSizes → ℕ → List Frame → Type 0
HaveWords q sizes p [] = HasWords q sizes p (used q p [])
HaveWords q sizes p (Held c x w xs cs ∷ fs) =
    HasWords q sizes p (used q p (Held c x w xs cs ∷ fs)) × CoversWork (proc_at q c) w × HaveWords q sizes c fs

abbrev pub StateRoom : Program → StackSizes → State → Type 0
StateRoom q sizes (At p x w fs t) = CoversWork (proc_at q p) w × HaveWords q sizes p fs

abbrev pub MoveRoom : Program → StackSizes → Move → Type 0
MoveRoom q sizes (Next g) = StateRoom q sizes g
MoveRoom q sizes (Ended x c t) = Unit {0}

-- the sizes of the stacks are at least main's own need
pub record Suffices (q : Program) (sizes : StackSizes) : Type 0 where
  pub temp : (main_need q).temp ≤ sizes.temp
  pub ctrl : (main_need q).ctrl ≤ sizes.ctrl
