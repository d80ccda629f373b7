-- What every state of the step machine keeps, where the program fits.
use Rattle.std.specs.Prelude.{◌≡◌, ℕ, ◌<◌, List, [], ◌∷◌, Bool, true, false, Some, None}
use Rattle.gypsy_syntax.specs.Programs.{ConditionOf, Leave, Routine, Space, Declared, Proc, Program, proc_at, shapes_of, conds_of}
use Rattle.gypsy_syntax.specs.{ProgramFits.{Each, HandlerFits, CallFits, StmtFits}, ValuesFit.{VarsFit}}
use Rattle.gypsy_semantics.specs.{Calls.{CurrentCondition}, Machine.{Item, Do, Back, JoinThen, JoinOne, Guard, Out, Frame, Held, State, At}}
use Rattle.gypsy_semantics.specs.Machine.{Move, Next, Ended}

-- whether a loop is round what stands on the list
abbrev pub in_loop : List Item → Bool
in_loop [] = false
in_loop (Do s ∷ w) = in_loop w
in_loop (Back place s ∷ w) = true
in_loop (JoinThen place v ∷ w) = in_loop w
in_loop (JoinOne place ∷ w) = in_loop w
in_loop (Guard place cs v ∷ w) = in_loop w
in_loop (Out c ∷ w) = in_loop w

-- a condition that is raised, inside a loop or not, where so many are declared
abbrev pub RaisedFits : Bool → ℕ → ConditionOf → Type 0
RaisedFits in_loop n Leave = in_loop ≡ true
RaisedFits in_loop n Routine = Unit {0}
RaisedFits in_loop n Space = Unit {0}
RaisedFits in_loop n (Declared i) = i < n

-- the work of procedure p; a condition on its way out is alone, and isn't leave
abbrev pub WorkFits : Program → Proc → List Item → Type 0
WorkFits q p [] = Unit {0}
WorkFits q p (Do s ∷ w) = StmtFits q (shapes_of p) (conds_of p) (in_loop w) s × WorkFits q p w
WorkFits q p (Back place s ∷ w) = StmtFits q (shapes_of p) (conds_of p) true s × WorkFits q p w
WorkFits q p (JoinThen place v ∷ w) = WorkFits q p w
WorkFits q p (JoinOne place ∷ w) = WorkFits q p w
WorkFits q p (Guard place cs v ∷ w) =
    Each (HandlerFits (conds_of p)) cs × StmtFits q (shapes_of p) (conds_of p) (in_loop w) v × WorkFits q p w
WorkFits q p (Out c ∷ w) = RaisedFits false (conds_of p) c × (w ≡ [])

-- the activations that wait below one of procedure p
abbrev pub FramesFit : Program → ℕ → List Frame → Type 0
FramesFit q p [] = p ≡ q.main
FramesFit q p (Held c x w xs cs ∷ fs) =
    CallFits q (shapes_of (proc_at q c)) (conds_of (proc_at q c)) (in_loop w) p xs cs ×
    VarsFit (shapes_of (proc_at q c)) x ×
    WorkFits q (proc_at q c) w ×
    FramesFit q c fs

abbrev pub StateFits : Program → State → Type 0
StateFits q (At p x w fs t) = VarsFit (shapes_of (proc_at q p)) x × WorkFits q (proc_at q p) w × FramesFit q p fs

-- what main ends with: normal, routineerror, spaceerror or a formal condition
abbrev pub EndFits : Program → CurrentCondition → Type 0
EndFits q None = Unit {0}
EndFits q (Some Leave) = ⊥
EndFits q (Some Routine) = Unit {0}
EndFits q (Some Space) = Unit {0}
EndFits q (Some (Declared i)) = i < (proc_at q q.main).conds

abbrev pub MoveFits : Program → Move → Type 0
MoveFits q (Next g) = StateFits q g
MoveFits q (Ended x c t) = VarsFit (proc_at q q.main).formals x × EndFits q c
