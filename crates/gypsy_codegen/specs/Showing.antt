-- The states of the generated system that read as states of the step machine.
use Rattle.std.specs.Prelude.{◌≡◌, ◌≤◌, ℕ, ◌+◌, ◌-◌, List, [], ◌∷◌, ◌++◌, Some, None, slice_get}
use Rattle.stack_text.specs.Values.{ValueOf}
use Rattle.piton_words.specs.declared.word.Word.TheVariants.{Nat}
use Rattle.piton_check.specs.Instruction as i
use Rattle.piton_check.specs.Instruction.{Instruction}
use Rattle.piton_semantics.specs.State as piton
use Rattle.piton_semantics.specs.State.{PitonState}
use Rattle.gypsy_syntax.specs.Programs.{Program, proc_at, body_of, Stmt, Loop}
use Rattle.gypsy_space.specs.Needs.{local_words}
use Rattle.gypsy_semantics.specs.Machine.{Item, Do, Back, JoinThen, JoinOne, Guard, Out, Frame, Held, State, At}
use Rattle.gypsy_codegen.specs.{WordsOf.{number_of, number_of_way}, Generated.{Scope, InLoop, InBegin, out_place, normal_code, after_code}}
use Rattle.gypsy_codegen.specs.{Generated.{after_size, size, gen, code_of}, Memory.{stack_of, frame_of, index_words}}

-- the instructions stand in the code at this place
abbrev pub HasAt : List Instruction → ℕ → List Instruction → Type 0
HasAt code at [] = Unit {0}
HasAt code at (i ∷ is) = (slice_get code at ≡ Some i) × HasAt code (at + 1) is

-- the code of a statement of procedure p
abbrev pub gen_in : Program → ℕ → List Scope → ℕ → Stmt → List Instruction
gen_in q p = gen q p (size q (body_of q p))

-- how many instructions stand from the top item to the end of the body
abbrev pub rest_size : Program → List Item → ℕ
rest_size q [] = 0
rest_size q (Do s ∷ w) = size q s + rest_size q w
rest_size q (Back place s ∷ w) = 3 + rest_size q w
rest_size q (JoinThen place v ∷ w) = 3 + size q v + rest_size q w
rest_size q (JoinOne place ∷ w) = 1 + rest_size q w
rest_size q (Guard place cs v ∷ w) = 4 + size q v + rest_size q w
rest_size q (Out c ∷ w) = rest_size q w

-- the place at which the code of the top item begins
abbrev pub mark_of : Program → ℕ → List Item → ℕ
mark_of q p (Out c ∷ w) = out_place q p (size q (body_of q p)) c
mark_of q p w = size q (body_of q p) - rest_size q w

abbrev pub mark : Program → State → ℕ
mark q (At p x w fs t) = mark_of q p w

-- the code of these items of procedure p stands from this place on, inside these scopes
abbrev pub Stands : Program → ℕ → List Scope → ℕ → List Item → Type 0
Stands q p env at [] = (env ≡ []) × (at ≡ size q (body_of q p))
Stands q p env at (Do s ∷ w) = HasAt (code_of q p) at (gen_in q p env at s) × Stands q p env (at + size q s) w
Stands q p env at (Back place s ∷ w) =
    (outer : List Scope) × (a : ℕ) × (env ≡ InLoop (at + 1) ∷ outer) × (a + 1 + size q s ≡ at) ×
    HasAt (code_of q p) a (gen_in q p outer a (Loop place s)) × Stands q p outer (at + 3) w
Stands q p env at (JoinThen place v ∷ w) =
    (slice_get (code_of q p) at ≡ Some (i.Jump (at + 2 + size q v))) × (slice_get (code_of q p) (at + 2 + size q v) ≡ Some i.NoOp) ×
    Stands q p env (at + 2 + size q v + 1) w
Stands q p env at (JoinOne place ∷ w) = (slice_get (code_of q p) at ≡ Some i.NoOp) × Stands q p env (at + 1) w
Stands q p env at (Guard place cs v ∷ w) =
    (outer : List Scope) × (env ≡ InBegin cs (at + 1) ∷ outer) ×
    HasAt (code_of q p) at
    (i.Jump (at + 3 + size q v) ∷ (normal_code ++ (gen_in q p outer (at + 3) v ++ i.NoOp ∷ []))) ×
    Stands q p outer (at + 3 + size q v + 1) w
Stands q p env at (Out c ∷ w) = ⊥

-- the same at the top of the list, where a condition may be on its way out
abbrev pub Tops : Program → ℕ → ℕ → List Item → Type 0
Tops q p at (Out c ∷ w) = (at ≡ out_place q p (size q (body_of q p)) c) × (w ≡ [])
Tops q p at [] = (env : List Scope) × Stands q p env at []
Tops q p at (Do s ∷ w) = (env : List Scope) × Stands q p env at (Do s ∷ w)
Tops q p at (Back place s ∷ w) = (env : List Scope) × Stands q p env at (Back place s ∷ w)
Tops q p at (JoinThen place v ∷ w) = (env : List Scope) × Stands q p env at (JoinThen place v ∷ w)
Tops q p at (JoinOne place ∷ w) = (env : List Scope) × Stands q p env at (JoinOne place ∷ w)
Tops q p at (Guard place cs v ∷ w) = (env : List Scope) × Stands q p env at (Guard place cs v ∷ w)

-- the number in c-c
abbrev pub cc_of : List Item → ℕ
cc_of (Out c ∷ w) = number_of c
cc_of [] = number_of_way None
cc_of (Do s ∷ w) = number_of_way None
cc_of (Back place s ∷ w) = number_of_way None
cc_of (JoinThen place v ∷ w) = number_of_way None
cc_of (JoinOne place ∷ w) = number_of_way None
cc_of (Guard place cs v ∷ w) = number_of_way None

abbrev pub frame_with : Program → ℕ → List Frame → ℕ → ℕ → piton.Frame
frame_with q p fs program place = record { locals = index_words (frame_of q p fs); program = program; place = place }

-- the instruction before a place calls this procedure
abbrev pub IsBehindCall : List Instruction → ℕ → ℕ → Type 0
IsBehindCall code place p = (1 ≤ place) × (slice_get code (place - 1) ≡ Some (i.Call p))

-- the frames: one for each activation, each above main's with the place behind the call that made it
abbrev pub Waits : Program → ℕ → List Frame → List piton.Frame → Type 0
Waits q p [] fr = (rp : ℕ) × (ra : ℕ) × (fr ≡ frame_with q p [] rp ra ∷ [])
Waits q p (Held c x w xs cs ∷ fs) fr =
    (ra : ℕ) × (frs : List piton.Frame) × (fr ≡ frame_with q p (Held c x w xs cs ∷ fs) c ra ∷ frs) × (env : List Scope) ×
    HasAt (code_of q c) ra (after_code q c (size q (body_of q c)) env ra (local_words (proc_at q p)) cs) ×
    Stands q c env (ra + after_size cs) w × Waits q c fs frs × IsBehindCall (code_of q c) ra p

-- a state that stands at the code of the top item and reads as this state of the step machine
pub record Reads (q : Program) (a : PitonState) (p : ℕ) (x : List ValueOf) (w : List Item) (fs : List Frame) : Type 0 where
  pub program : a.program ≡ p
  pub tops : Tops q p a.place w
  pub condition : a.areas ≡ (Nat (cc_of w) ∷ []) ∷ []
  pub stack : a.stack ≡ stack_of q p x fs
  pub frames : Waits q p fs a.frames

abbrev pub StandsAs : Program → PitonState → State → Type 0
StandsAs q a (At p x w fs t) = Reads q a p x w fs
