-- Readers of texts by a grammar: the value that a text has, or why it has none.
use Rattle.std.specs.Prelude.{◌≡◌, ℕ, List, Result, Ok, Err}
use Rattle.stack_text.specs.{declared.breach.Breach.{Breach}, declared.text_fault.TextRule.{TextRule}}
use Rattle.stack_text.specs.{declared.text_fault.TextFault.{TextFault}, declared.grammar.fault.FormFault.{FormFault}, Breaches.{least_of}}
use Rattle.stack_text.specs.{Trees.{Node, IsWellFormed}, TreeIn.{tree_in}, Grammar.Judged.{Judged}}
use Rattle.stack_text.specs.declared.text_fault.TextFault.TheVariants as text
use Rattle.stack_text.specs.declared.grammar.fault.FormFault.TheVariants as form

-- A reader is given by the value that a tree is judged to be, the tree that a value is printed as, a value without its
-- places, and its faults: those of a text that is no tree, those of the form, and out of memory.
pub record TextReader (X Fault : Type 0) : Type 0 where
  pub judge : Node → Judged X
  pub tree : X → Node
  pub unplaced : X → X
  pub text_fault : TextRule → ℕ → Fault
  pub form_fault : ℕ → ℕ → Fault
  pub out_of_memory : Fault

-- a fault of the text, and one of the form, as faults of the reader
abbrev pub fault_of_text : {X F : Type 0} → TextReader X F → TextFault → F
fault_of_text r (text.Fault rule place) = r.text_fault rule place
fault_of_text r text.Memory = r.out_of_memory

abbrev pub fault_of_form : {X F : Type 0} → TextReader X F → FormFault → F
fault_of_form r (form.Form rule place) = r.form_fault rule place
fault_of_form r form.Memory = r.out_of_memory

abbrev pub fault_of_breach : {X F : Type 0} → TextReader X F → Breach → F
fault_of_breach r breach = r.form_fault breach.rule breach.place

-- of several faults the least is returned
abbrev pub judgement : {X F : Type 0} → TextReader X F → Judged X → Result X F
judgement r (Ok x) = Ok x
judgement r (Err faults) = Err (fault_of_breach r (least_of faults.0 faults.1))

abbrev pub value_by : {X F : Type 0} → TextReader X F → Result Node (TextRule × ℕ) → Result X F
value_by r (Ok t) = judgement r (r.judge t)
value_by r (Err fault) = Err (r.text_fault fault.0 fault.1)

-- the value that a text has, or what is wrong with its tree, or why the text is no tree
abbrev pub value_in : {X F : Type 0} → TextReader X F → List ℕ → Result X F
value_in r text = value_by r (tree_in text)

-- The value's tree has the form of a tree, and is that value but for places. Every value that was read keeps the form,
-- and each that keeps it can be printed.
pub record KeepsFormOf {X F : Type 0} (r : TextReader X F) (x : X) : Type 0 where
  pub well_formed : IsWellFormed (r.tree x)
  pub reads : r.judge (r.tree x) ≡ Ok (r.unplaced x)

-- the text is the value's but for places
abbrev pub ReadsBack : {X F : Type 0} → TextReader X F → List ℕ → X → Type 0
ReadsBack {X = X} r text x = (y : X) × (value_in r text ≡ Ok y) × (r.unplaced y ≡ r.unplaced x)
