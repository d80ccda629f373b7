-- What is known of the program of a source that breaks no static rule.
use Rattle.std.specs.Prelude.{◌≡◌, ◌≢◌, ℕ, ◌<◌, ◌≤◌, List, [], ◌∷◌, length, slice_get, Bool, true, false, Option, Some, None}
use Rattle.stack_text.specs.{SharedLimits.{most_stack, most_array}, declared.shape.Kind.{Kind}, declared.shape.Kind.TheVariants.{Boolean}}
use Rattle.stack_text.specs.declared.shape.Shape.{Shape}
use Rattle.gypsy_syntax.specs.{declared.slot.Form.{Form}, declared.slot.Form.TheVariants.{Simple, Array, Literal}}
use Rattle.gypsy_syntax.specs.{declared.slot.Slot.{Slot}, Predefined.{slots_of}, Programs.{ConditionOf, Leave, Routine, Space, Declared}}
use Rattle.gypsy_syntax.specs.Programs.{Arg, Var, Lit, Proc, Program, simple, proc_at, shapes_of, conds_of, words_of, Stmt, Skip, NoOp}
use Rattle.gypsy_syntax.specs.{Programs.{Signal, Seq, Loop, If, Begin, Call, Apply}, ValuesFit.{ValueFits}}
pub use Rattle.stack_text.specs.Lists.{Each}

-- a is none of these
abbrev pub Misses : ℕ → List ℕ → Type 0
Misses a [] = Unit {0}
Misses a (b ∷ xs) = (a ≢ b) × Misses a xs

-- no two are the same
abbrev pub Distinct : List ℕ → Type 0
Distinct [] = Unit {0}
Distinct (a ∷ xs) = Misses a xs × Distinct xs

-- a condition that is signalled or given, inside a loop or not, where so many are declared: never spaceerror
abbrev pub CondFits : Bool → ℕ → ConditionOf → Type 0
CondFits in_loop n Leave = in_loop ≡ true
CondFits in_loop n Routine = Unit {0}
CondFits in_loop n Space = ⊥
CondFits in_loop n (Declared i) = i < n

-- a condition that is handled
abbrev pub HandlerFits : ℕ → ConditionOf → Type 0
HandlerFits n Leave = ⊥
HandlerFits n Routine = Unit {0}
HandlerFits n Space = Unit {0}
HandlerFits n (Declared i) = i < n

-- the data actuals are variables of the formals' shapes
abbrev pub ActualsFit : List Shape → List Shape → List ℕ → Type 0
ActualsFit shapes [] [] = Unit {0}
ActualsFit shapes [] (x ∷ xs) = ⊥
ActualsFit shapes (f ∷ fs) [] = ⊥
ActualsFit shapes (f ∷ fs) (x ∷ xs) = (slice_get shapes x ≡ Some f) × ActualsFit shapes fs xs

-- an argument of this form and kind
abbrev pub ArgFits : List Shape → Form → Kind → Arg → Type 0
ArgFits shapes Simple k (Var i) = slice_get shapes i ≡ Some (simple k)
ArgFits shapes Array k (Var i) = (n : ℕ) × (0 < n) × (n ≤ most_array) × (slice_get shapes i ≡ Some record { kind = k; length = n })
ArgFits shapes Literal k (Var i) = ⊥
ArgFits shapes Simple k (Lit v) = ⊥
ArgFits shapes Array k (Lit v) = ⊥
ArgFits shapes Literal k (Lit v) = (v.shape ≡ simple k) × ValueFits v

abbrev pub slot_kind : Kind → Option Kind → Kind
slot_kind k None = k
slot_kind k (Some j) = j

-- the arguments fit the slots, where k is the kind that they share
abbrev pub ArgsFit : List Shape → Kind → List Slot → List Arg → Type 0
ArgsFit shapes k [] [] = Unit {0}
ArgsFit shapes k [] (a ∷ args) = ⊥
ArgsFit shapes k (slot ∷ slots) [] = ⊥
ArgsFit shapes k (slot ∷ slots) (a ∷ args) = ArgFits shapes slot.form (slot_kind k slot.kind) a × ArgsFit shapes k slots args

-- a call's callee, with the data and condition actuals
pub record CallFits (q : Program) (shapes : List Shape) (n : ℕ) (in_loop : Bool) (p : ℕ) (xs : List ℕ)
    (cs : List ConditionOf) : Type 0 where
  pub callee : p < length q.procs
  pub not_main : p ≢ q.main
  pub actuals : ActualsFit shapes (proc_at q p).formals xs
  pub distinct : Distinct xs
  pub number : length cs ≡ (proc_at q p).conds
  pub conds : Each (CondFits in_loop n) cs

-- a statement of a procedure with variables of these shapes and n conditions, inside a loop or not
abbrev pub StmtFits : Program → List Shape → ℕ → Bool → Stmt → Type 0
StmtFits q shapes n in_loop Skip = Unit {0}
StmtFits q shapes n in_loop (NoOp place) = Unit {0}
StmtFits q shapes n in_loop (Signal place c) = CondFits in_loop n c
StmtFits q shapes n in_loop (Seq a b) = StmtFits q shapes n in_loop a × StmtFits q shapes n in_loop b
StmtFits q shapes n in_loop (Loop place s) = StmtFits q shapes n true s
StmtFits q shapes n in_loop (If place b s w) =
    (slice_get shapes b ≡ Some (simple Boolean)) × StmtFits q shapes n in_loop s × StmtFits q shapes n in_loop w
StmtFits q shapes n in_loop (Begin place s cs w) =
    Each (HandlerFits n) cs × StmtFits q shapes n in_loop s × StmtFits q shapes n in_loop w
StmtFits q shapes n in_loop (Call place p xs cs) = CallFits q shapes n in_loop p xs cs
StmtFits q shapes n in_loop (Apply place row args) = (k : Kind) × ArgsFit shapes k (slots_of row) args

pub record ProcFits (q : Program) (p : Proc) : Type 0 where
  pub formals : Each (λ s. s.length ≤ most_array) p.formals
  pub locals : Each ValueFits p.locals
  pub words : words_of (shapes_of p) ≤ most_stack
  pub body : StmtFits q (shapes_of p) (conds_of p) false p.body

-- main is there, and each procedure fits, what stands past the last one too
pub record ProgramFits (q : Program) : Type 0 where
  pub main : q.main < length q.procs
  pub procs : (i : ℕ) → ProcFits q (proc_at q i)
