-- The marks of a generated program: the places of its code at which a state of the step machine may stand, with what they are in
-- the source.
use Rattle.std.specs.{Prelude.{◌≡◌, ℕ, ◌+◌, ◌<◌, List, [], ◌∷◌, ◌++◌, ◌⊎◌, length, flat_map}, List.{Contains}}
use Rattle.stack_text.specs.Values.{ValueOf}
use Rattle.piton_semantics.specs.Fits.{IsPlace}
use Rattle.gypsy_syntax.specs.Programs.{Program, proc_at, body_of, Stmt, Skip, NoOp, Signal, Seq, Loop, If, Begin, Call, Apply}
use Rattle.gypsy_syntax.specs.{ProgramFits.{Each, ProgramFits}, ValuesFit.{VarsFit}}
use Rattle.gypsy_space.specs.Needs.{StackSizes}
use Rattle.gypsy_semantics.specs.Machine.{State, At, Next, place_of}
use Rattle.gypsy_codegen.specs.{declared.marking.MarkAt.{MarkAt}, Generated.{size, count_from, generated_view}, Showing.{mark_of}}
use Rattle.gypsy_codegen.specs.Moments.{moment_from}

-- a place of a program's code, and the place in the source
abbrev pub mark_at : ℕ → ℕ → ℕ → MarkAt
mark_at program at place = record { program = program; at = at; place = place }

-- The marks of a statement of procedure p whose code stands at this place: its first instruction, but of a sequence and of a
-- `begin` none; of a loop the jump back; of an `if` and of a `begin` the jump behind the first part, and the instruction where both
-- parts go on.
abbrev pub statement_marks : Program → ℕ → ℕ → Stmt → List MarkAt
statement_marks q p at Skip = []
statement_marks q p at (NoOp place) = mark_at p at place ∷ []
statement_marks q p at (Signal place c) = mark_at p at place ∷ []
statement_marks q p at (Seq a b) = statement_marks q p at a ++ statement_marks q p (at + size q a) b
statement_marks q p at (Loop place s) =
    mark_at p at place ∷ (statement_marks q p (at + 1) s ++ mark_at p (at + 1 + size q s) place ∷ [])
statement_marks q p at (If place b s w) =
    let jump = at + 3 + size q s in
    mark_at p at place ∷ (statement_marks q p (at + 3) s ++
    mark_at p jump place ∷ (statement_marks q p (jump + 2) w ++ mark_at p (jump + 2 + size q w) place ∷ []))
statement_marks q p at (Begin place s cs w) =
    let jump = at + size q s in
    statement_marks q p at s ++
    mark_at p jump place ∷ (statement_marks q p (jump + 3) w ++ mark_at p (jump + 3 + size q w) place ∷ [])
statement_marks q p at (Call place c xs cs) = mark_at p at place ∷ []
statement_marks q p at (Apply place r args) = mark_at p at place ∷ []

-- behind a body of n instructions: the jump to L1, L0 and L1
abbrev pub tail_marks : ℕ → ℕ → ℕ → List MarkAt
tail_marks p n place = mark_at p n place ∷ mark_at p (n + 1) place ∷ mark_at p (n + 3) place ∷ []

-- of a procedure
abbrev pub procedure_marks : Program → ℕ → List MarkAt
procedure_marks q p = statement_marks q p 0 (body_of q p) ++ tail_marks p (size q (body_of q p)) (proc_at q p).place

-- of all procedures, in the order of the programs
abbrev pub marks_of : Program → List MarkAt
marks_of q = flat_map (procedure_marks q) (count_from 0 (length q.procs))

-- the mark of the top item, with its procedure and its place in the source
abbrev pub top_mark : Program → State → MarkAt
top_mark q (At p x w fs t) = mark_at p (mark_of q p w) (place_of q (At p x w fs t))

-- each mark of the step machine is among them
abbrev pub EachMomentIsMarked : Type 0
EachMomentIsMarked = (q : Program) (sizes : StackSizes) (v : List ValueOf) (j : ℕ) (g : State) → ProgramFits q →
    VarsFit (proc_at q q.main).formals v → moment_from q sizes v j ≡ Next g → Contains (marks_of q) (top_mark q g)

-- one mark stands before another: in an earlier program, or earlier in the same one
abbrev pub IsBefore : MarkAt → MarkAt → Type 0
IsBefore m n = (m.program < n.program) ⊎ ((m.program ≡ n.program) × (m.at < n.at))

-- each before the next
abbrev pub Ascend : List MarkAt → Type 0
Ascend [] = Unit {0}
Ascend (m ∷ []) = Unit {0}
Ascend (m ∷ n ∷ ms) = IsBefore m n × Ascend (n ∷ ms)

-- the marks ascend by program, and in it by place
abbrev pub MarksAscend : Type 0
MarksAscend = (q : Program) → Ascend (marks_of q)

-- each stands at an instruction of a procedure's program
abbrev pub IsMarkPlace : Program → StackSizes → ℕ → MarkAt → Type 0
IsMarkPlace q sizes base m = (m.program < length q.procs) × IsPlace (generated_view q sizes base) m.program m.at

abbrev pub MarksArePlaces : Type 0
MarksArePlaces = (q : Program) (sizes : StackSizes) (base : ℕ) → Each (IsMarkPlace q sizes base) (marks_of q)
