-- Statements and states without spaceerror: it is neither signalled, nor handed to a callee, nor on its way out of a procedure.
use Rattle.std.specs.Prelude.{List, [], ◌∷◌, Some, None}
use Rattle.gypsy_syntax.specs.Programs.{ConditionOf, Leave, Routine, Space, Declared, Stmt, Skip, NoOp, Signal, Seq, Loop, If, Begin, Call}
use Rattle.gypsy_syntax.specs.{Programs.{Apply}, ProgramFits.{Each}}
use Rattle.gypsy_semantics.specs.{Calls.{CurrentCondition}, Machine.{Item, Do, Back, JoinThen, JoinOne, Guard, Out, Frame, Held, State, At}}
use Rattle.gypsy_semantics.specs.Machine.{Move, Next, Ended}

abbrev pub IsOther : ConditionOf → Type 0
IsOther Leave = Unit {0}
IsOther Routine = Unit {0}
IsOther Space = ⊥
IsOther (Declared i) = Unit {0}

abbrev pub OmitsSpace : Stmt → Type 0
OmitsSpace Skip = Unit {0}
OmitsSpace (NoOp place) = Unit {0}
OmitsSpace (Signal place c) = IsOther c
OmitsSpace (Seq a b) = OmitsSpace a × OmitsSpace b
OmitsSpace (Loop place s) = OmitsSpace s
OmitsSpace (If place b s w) = OmitsSpace s × OmitsSpace w
OmitsSpace (Begin place s cs w) = OmitsSpace s × OmitsSpace w
OmitsSpace (Call place p xs cs) = Each IsOther cs
OmitsSpace (Apply place r args) = Unit {0}

abbrev pub WorkOmitsSpace : List Item → Type 0
WorkOmitsSpace [] = Unit {0}
WorkOmitsSpace (Do s ∷ w) = OmitsSpace s × WorkOmitsSpace w
WorkOmitsSpace (Back place s ∷ w) = OmitsSpace s × WorkOmitsSpace w
WorkOmitsSpace (JoinThen place v ∷ w) = WorkOmitsSpace w
WorkOmitsSpace (JoinOne place ∷ w) = WorkOmitsSpace w
WorkOmitsSpace (Guard place cs v ∷ w) = OmitsSpace v × WorkOmitsSpace w
WorkOmitsSpace (Out c ∷ w) = IsOther c × WorkOmitsSpace w

abbrev pub WaitingOmitsSpace : List Frame → Type 0
WaitingOmitsSpace [] = Unit {0}
WaitingOmitsSpace (Held c x w xs cs ∷ fs) = WorkOmitsSpace w × Each IsOther cs × WaitingOmitsSpace fs

abbrev pub StateOmitsSpace : State → Type 0
StateOmitsSpace (At p x w fs t) = WorkOmitsSpace w × WaitingOmitsSpace fs

abbrev pub WayIsOther : CurrentCondition → Type 0
WayIsOther None = Unit {0}
WayIsOther (Some c) = IsOther c

abbrev pub MoveOmitsSpace : Move → Type 0
MoveOmitsSpace (Next g) = StateOmitsSpace g
MoveOmitsSpace (Ended x c t) = WayIsOther c
