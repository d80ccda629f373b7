-- What a call of a predefined program does: from the `call`, its arguments pushed, to the place after it.
use Rattle.std.specs.Prelude.{◌≡◌, ℕ, ◌+◌, ◌-◌, ◌≤◌, ◌<◌, ◌≢◌, ℤ, pos, List, [], ◌∷◌, length, map, slice_get, Some, if◌then◌else◌}
use Rattle.stack_text.specs.{SharedLimits.{most_stack}, declared.shape.Kind.{Kind}, declared.shape.Kind.TheVariants.{Integer, Boolean}}
use Rattle.stack_text.specs.{declared.shape.Kind.TheVariants.{Character}, Values.{ValueOf, item_count}}
use Rattle.piton_words.specs.{declared.word.Word.{Word}, declared.word.Word.TheVariants.{Int, Nat, Bool as Truth}}
use Rattle.piton_check.specs.Instruction.{SystemView, Call}
use Rattle.piton_semantics.specs.{State.{Frame, PitonState, instruction_at, ctrl_used, element, with_element, with_word}, Law.{Steps}}
use Rattle.gypsy_syntax.specs.{declared.slot.Form.{Form}, declared.slot.Form.TheVariants.{Simple, Array, Literal}}
use Rattle.gypsy_syntax.specs.{declared.slot.Slot.{Slot}, declared.predef.Predef.{Predef}, Predefined.{slots_of, predef_effect}}
use Rattle.gypsy_syntax.specs.{Predefined.{predef_cost, predef_temp, predef_ctrl, predef_number, can_fail}, Programs.{simple}}
use Rattle.gypsy_syntax.specs.{ProgramFits.{slot_kind}, ValuesFit.{ValueFits}, Effects.{Effect, Normal, Fault, Beyond, same_int}}
use Rattle.gypsy_syntax.specs.Effects.{item_of_value, value_at}
use Rattle.gypsy_syntax.specs.declared.predef.Predef.TheVariants as row
use Rattle.gypsy_predef.specs.Bodies.{body_of, lengths_of}

-- an item as a word
abbrev pub word_of_item : Kind → ℤ → Word
word_of_item Integer z = Int z
word_of_item Character z = Int z
word_of_item Boolean z = Truth (same_int z (pos 1))

abbrev pub words_of_value : ValueOf → List Word
words_of_value v = map (word_of_item v.shape.kind) v.items

-- the elements from an index on are these words
abbrev pub Holds : List Word → ℕ → List Word → Type 0
Holds stack index words = (h : ℕ) (w : Word) → slice_get words h ≡ Some w → element stack (index + h) ≡ Some w

-- the stack with these words at the elements from an index on
abbrev pub with_elements : List Word → ℕ → List Word → List Word
with_elements stack index [] = stack
with_elements stack index (w ∷ words) = with_element (with_elements stack (index + 1) words) index w

-- an argument of a call: its value, and of a variable the index of its first element and the local that holds the index
pub record Argument : Type 0 where
  pub local : ℕ
  pub index : ℕ
  pub value : ValueOf

abbrev pub values_of : List Argument → List ValueOf
values_of args = map (λ a. a.value) args

-- an argument of a form and kind, its variable's words at its index
abbrev pub ArgumentFits : List Word → Form → Kind → Argument → Type 0
ArgumentFits stack Simple k a = (a.value.shape ≡ simple k) × ValueFits a.value × Holds stack a.index (words_of_value a.value)
ArgumentFits stack Array k a = (a.value.shape.kind ≡ k) × ValueFits a.value × Holds stack a.index (words_of_value a.value)
ArgumentFits stack Literal k a = (a.value.shape ≡ simple k) × ValueFits a.value

-- the arguments fit the slots, where k is the kind that they share
abbrev pub ArgumentsFit : List Word → Kind → List Slot → List Argument → Type 0
ArgumentsFit stack k [] [] = Unit {0}
ArgumentsFit stack k [] (a ∷ args) = ⊥
ArgumentsFit stack k (slot ∷ slots) [] = ⊥
ArgumentsFit stack k (slot ∷ slots) (a ∷ args) =
    ArgumentFits stack slot.form (slot_kind k slot.kind) a × ArgumentsFit stack k slots args

-- the word that is pushed for an argument: a variable's index, or a literal
abbrev pub pushed_word : Form → Argument → Word
pushed_word Simple a = Nat a.index
pushed_word Array a = Nat a.index
pushed_word Literal a = word_of_item a.value.shape.kind (item_of_value a.value)

abbrev pub pushed_words : List Slot → List Argument → List Word
pushed_words [] args = []
pushed_words (slot ∷ slots) [] = []
pushed_words (slot ∷ slots) (a ∷ args) = pushed_word slot.form a ∷ pushed_words slots args

-- the stack with these words pushed, the last on top
abbrev pub push_all : List Word → List Word → List Word
push_all [] stack = stack
push_all (w ∷ words) stack = push_all words (w ∷ stack)

-- the length of the array, which the array rows push last
abbrev pub length_word : ValueOf → Word
length_word v = Int (pos (item_count v.shape))

abbrev pub length_words : Predef → List ValueOf → List Word
length_words row.MgIndexArray vs = length_word (value_at vs 1) ∷ []
length_words row.MgArrayElementAssignment vs = length_word (value_at vs 0) ∷ []
length_words r vs = []

abbrev pub with_arguments : Predef → List Argument → List Word → List Word
with_arguments r args stack = push_all (length_words r (values_of args)) (push_all (pushed_words (slots_of r) args) stack)

-- the index of the variable that is written
abbrev pub target_of : List Argument → ℕ
target_of [] = 0
target_of (a ∷ args) = a.index

-- the state after the call: the variable written, or `c-c` at 1 for routineerror
abbrev pub after_call : PitonState → List Word → List Argument → Effect → PitonState
after_call p stack args (Normal v) = record p { place = p.place + 1; stack = with_elements stack (target_of args) (words_of_value v) }
after_call p stack args Fault = record p { place = p.place + 1; stack = stack; areas = with_word p.areas 0 0 (Nat 1) }
after_call p stack args Beyond = record p { place = p.place + 1; stack = stack; areas = with_word p.areas 0 0 (Nat 1) }

-- What the table counts beside the call itself: the pushes before it, and after it the test for a fault.
abbrev pub push_count : Form → ℕ
push_count Simple = 3
push_count Array = 3
push_count Literal = 1

abbrev pub pushes_count : List Slot → ℕ
pushes_count [] = 0
pushes_count (slot ∷ slots) = push_count slot.form + pushes_count slots

abbrev pub beside_count : Predef → ℕ
beside_count r = pushes_count (slots_of r) + lengths_of r + (if can_fail r then 5 else 0)

abbrev pub beside_steps : Predef → ℕ
beside_steps r = length (slots_of r) + lengths_of r + (if can_fail r then 3 else 0)

-- instructions and steps from the call until after it
abbrev pub called_count : Predef → Effect → ℕ
called_count r e = (predef_cost r e).0 - beside_count r

abbrev pub called_steps : Predef → Effect → ℕ
called_steps r e = (predef_cost r e).1 - beside_steps r

-- A state at a call of the row's program, whose arguments lie on this stack.
pub record IsAtCall (s : SystemView) (program : ℕ) (r : Predef) (args : List Argument) (stack : List Word) (f : Frame) (fs : List Frame)
    (p : PitonState) : Type 0 where
  pub call : instruction_at s p.program p.place ≡ Some (Call program)
  pub frames : p.frames ≡ f ∷ fs
  pub pushed : p.stack ≡ with_arguments r args stack
  pub temp : s.temp ≤ most_stack
  pub temp_room : length stack + predef_temp r ≤ s.temp
  pub ctrl_room : ctrl_used (f ∷ fs) + predef_ctrl r ≤ s.ctrl

-- The call of a row's program leads to the place after it with the row's effect, in the steps and at the cost of the table.
abbrev pub Runs : SystemView → Predef → List Argument → List Word → PitonState → Effect → Type 0
Runs s r args stack p e = Steps s (called_steps r e) (called_count r e) p (after_call p stack args e)

abbrev pub PredefRuns : Type 0
PredefRuns = (s : SystemView) (start : ℕ) (r : Predef) (k : Kind) (args : List Argument) (stack : List Word) (f : Frame) (fs : List Frame)
    (p : PitonState) →
    slice_get s.programs (start + predef_number r) ≡ Some (body_of r) → IsAtCall s (start + predef_number r) r args stack f fs p →
    ArgumentsFit stack k (slots_of r) args → Runs s r args stack p (predef_effect r (values_of args))

-- nothing is cut off by the subtractions
abbrev pub CountsAdd : Type 0
CountsAdd = (r : Predef) (e : Effect) →
    (beside_count r + called_count r e ≡ (predef_cost r e).0) × (beside_steps r + called_steps r e ≡ (predef_cost r e).1)

-- what is read where words were written: the words, and all else as before
pub record IsWritten (stack : List Word) (index : ℕ) (words : List Word) : Type 0 where
  pub size : length (with_elements stack index words) ≡ length stack
  pub written : Holds (with_elements stack index words) index words
  pub kept : (i : ℕ) → i < length stack → ((h : ℕ) → h < length words → i ≢ index + h) →
      element (with_elements stack index words) i ≡ element stack i

abbrev pub WordsWritten : Type 0
WordsWritten =
    (stack : List Word) (index : ℕ) (words : List Word) → index + length words ≤ length stack → IsWritten stack index words
