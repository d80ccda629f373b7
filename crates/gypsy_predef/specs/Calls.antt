-- The code of a predefined call, as a generator gives it: the arguments pushed, the call, and the test for a fault.
use Rattle.std.specs.Prelude.{◌≡◌, ℕ, ◌+◌, ◌≤◌, List, [], ◌∷◌, ◌++◌, length, map, slice_get, Some, if◌then◌else◌}
use Rattle.stack_text.specs.{SharedLimits.{most_stack}, declared.shape.Kind.{Kind}, declared.shape.Shape.{Shape}, Values.{ValueOf}}
use Rattle.piton_words.specs.{declared.word.Word.{Word}, declared.word.Word.TheVariants.{Nat}}
use Rattle.piton_words.specs.declared.op.WordOp.TheVariants as op
use Rattle.piton_syntax.specs.declared.test_kind.TestFamily.TheVariants as family
use Rattle.piton_syntax.specs.declared.test_kind.TestKind.TheVariants as test
use Rattle.piton_check.specs.Instruction.{Instruction, ProgramView, SystemView, PushConstant, PushLocal, PushGlobal, Apply, TestAndJump}
use Rattle.piton_check.specs.Instruction.{Call}
use Rattle.piton_semantics.specs.{State.{Frame, PitonState, instruction_at, ctrl_used, word_at, with_word}, Law.{Steps}}
use Rattle.gypsy_syntax.specs.{declared.slot.Form.{Form}, declared.slot.Form.TheVariants.{Simple, Array, Literal}}
use Rattle.gypsy_syntax.specs.{declared.slot.Slot.{Slot}, declared.predef.Predef.{Predef}, Predefined.{slots_of, predef_effect}}
use Rattle.gypsy_syntax.specs.{Predefined.{predef_cost, predef_temp, predef_ctrl, predef_number, can_fail}, Programs.{Arg, Var, Lit}}
use Rattle.gypsy_syntax.specs.{ProgramFits.{ArgsFit}, ValuesFit.{ValueFits}, Effects.{Effect, Normal, Fault, Beyond, value_at}}
use Rattle.gypsy_predef.specs.{Bodies.{body_of, bodies}, Runs.{Argument, ArgumentsFit, Holds, pushed_word, values_of, length_words}}
use Rattle.gypsy_predef.specs.Runs.{with_elements, target_of, words_of_value}

-- the instruction that pushes an argument
abbrev pub argument_code : Form → Argument → Instruction
argument_code Simple a = PushLocal a.local
argument_code Array a = PushLocal a.local
argument_code Literal a = PushConstant (pushed_word Literal a)

abbrev pub arguments_code : List Slot → List Argument → List Instruction
arguments_code [] args = []
arguments_code (slot ∷ slots) [] = []
arguments_code (slot ∷ slots) (a ∷ args) = argument_code slot.form a ∷ arguments_code slots args

-- after the call of a program that can fail: where `c-c` is 1, the jump to the target of routineerror
abbrev pub test_code : Predef → ℕ → List Instruction
test_code r target = if can_fail r then PushGlobal 0 ∷ Apply op.Sub1Nat ∷ TestAndJump family.Nat test.Zero target ∷ [] else []

abbrev pub predef_code : Predef → ℕ → ℕ → List Argument → List Instruction
predef_code r program target args =
    arguments_code (slots_of r) args ++ (map PushConstant (length_words r (values_of args)) ++ (Call program ∷ test_code r target))

-- these instructions stand in a program from a place on
abbrev pub CodeAt : SystemView → ℕ → ℕ → List Instruction → Type 0
CodeAt s program place code =
    (i : ℕ) (instruction : Instruction) → slice_get code i ≡ Some instruction →
    instruction_at s program (place + i) ≡ Some instruction

-- the locals hold the variables' indices
abbrev pub LocalHolds : List Word → Form → Argument → Type 0
LocalHolds locals Simple a = slice_get locals a.local ≡ Some (Nat a.index)
LocalHolds locals Array a = slice_get locals a.local ≡ Some (Nat a.index)
LocalHolds locals Literal a = Unit {0}

abbrev pub LocalsHold : List Word → List Slot → List Argument → Type 0
LocalsHold locals [] args = Unit {0}
LocalsHold locals (slot ∷ slots) [] = Unit {0}
LocalsHold locals (slot ∷ slots) (a ∷ args) = LocalHolds locals slot.form a × LocalsHold locals slots args

-- A state at the code of a predefined call.
pub record IsAtCode (s : SystemView) (program target : ℕ) (r : Predef) (k : Kind) (args : List Argument) (f : Frame) (fs : List Frame)
    (p : PitonState) : Type 0 where
  pub code : CodeAt s p.program p.place (predef_code r program target args)
  pub frames : p.frames ≡ f ∷ fs
  pub locals : LocalsHold f.locals (slots_of r) args
  pub arguments : ArgumentsFit p.stack k (slots_of r) args
  pub condition : word_at p.areas 0 0 ≡ Some (Nat 2)
  pub temp : s.temp ≤ most_stack
  pub temp_room : length p.stack + predef_temp r ≤ s.temp
  pub ctrl_room : ctrl_used (f ∷ fs) + predef_ctrl r ≤ s.ctrl

-- the state after the code with the variable written, or at the target of routineerror with `c-c` at 1
abbrev pub after_code : PitonState → ℕ → ℕ → List Argument → Effect → PitonState
after_code p target size args (Normal v) =
    record p { place = p.place + size; stack = with_elements p.stack (target_of args) (words_of_value v) }
after_code p target size args Fault = record p { place = target; areas = with_word p.areas 0 0 (Nat 1) }
after_code p target size args Beyond = record p { place = target; areas = with_word p.areas 0 0 (Nat 1) }

-- The code of a predefined call has the row's effect, in the steps and at the cost of the table.
abbrev pub PredefCallRuns : Type 0
PredefCallRuns = (s : SystemView) (start target : ℕ) (r : Predef) (k : Kind) (args : List Argument) (f : Frame) (fs : List Frame)
    (p : PitonState) →
    slice_get s.programs (start + predef_number r) ≡ Some (body_of r) → IsAtCode s (start + predef_number r) target r k args f fs p →
    let e = predef_effect r (values_of args) in
    let size = length (predef_code r (start + predef_number r) target args) in
    Steps s (predef_cost r e).1 (predef_cost r e).0 p (after_code p target size args e)

-- an argument of a statement, where variables have these locals, indices and values
abbrev pub argument_of : (ℕ → ℕ) → (ℕ → ℕ) → List ValueOf → Arg → Argument
argument_of local index x (Var i) = record { local = local i; index = index i; value = value_at x i }
argument_of local index x (Lit v) = record { local = 0; index = 0; value = v }

-- a variable of this shape: its value fits, and the stack and the locals hold it
pub record VariableHolds (stack locals : List Word) (local index : ℕ) (v : ValueOf) (s : Shape) : Type 0 where
  pub shape : v.shape ≡ s
  pub fits : ValueFits v
  pub words : Holds stack index (words_of_value v)
  pub local_holds : slice_get locals local ≡ Some (Nat index)

-- the arguments of a statement that fits are arguments of its call
abbrev pub ArgumentsHold : Type 0
ArgumentsHold = (shapes : List Shape) (x : List ValueOf) (stack locals : List Word) (local index : ℕ → ℕ)
    (k : Kind) (slots : List Slot) (args : List Arg) →
    ArgsFit shapes k slots args →
    ((i : ℕ) (s : Shape) → slice_get shapes i ≡ Some s → VariableHolds stack locals (local i) (index i) (value_at x i) s) →
    ArgumentsFit stack k slots (map (argument_of local index x) args) × LocalsHold locals slots (map (argument_of local index x) args)

-- their values are those of the statement's arguments, by any definition that says so of a variable and of a literal
abbrev pub ValuesKept : Type 0
ValuesKept = (x : List ValueOf) (local index : ℕ → ℕ) (value_of : Arg → ValueOf) (args : List Arg) →
    ((i : ℕ) → value_of (Var i) ≡ value_at x i) → ((v : ValueOf) → value_of (Lit v) ≡ v) →
    values_of (map (argument_of local index x) args) ≡ map value_of args

-- the bodies at the end of a system stand at their numbers
abbrev pub BodiesStand : Type 0
BodiesStand = (s : SystemView) (programs : List ProgramView) (r : Predef) → s.programs ≡ programs ++ bodies →
    slice_get s.programs (length programs + predef_number r) ≡ Some (body_of r)
