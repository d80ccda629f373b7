-- What reading a text returns.
use Rattle.std.specs.Prelude.{ℕ, List, Option, Some, None, Result}
use Rattle.stack_text.specs.Gives as common
use Rattle.stack_text.specs.Grammar.TextReaders.{TextReader, value_in, KeepsFormOf, ReadsBack}
use Rattle.piton_syntax.specs.{declared.fault.PitonFault.{PitonFault}, declared.fault.PitonFault.TheVariants.{Text, Form, Memory}}
use Rattle.piton_syntax.specs.{Grammar.{system_of}, Printed.{tree_of}, Systems.{SystemOf, without_places}}

abbrev pub piton_reader : TextReader SystemOf PitonFault
piton_reader = record {
  judge = system_of;
  tree = tree_of;
  unplaced = without_places;
  text_fault = Text;
  form_fault = Form;
  out_of_memory = Memory;
}

-- the system that a text has, or what is wrong with its tree, or why the text is no tree
abbrev pub piton_in : List ℕ → Result SystemOf PitonFault
piton_in = value_in piton_reader

-- out of memory is no fault of a text
abbrev pub fault_of : PitonFault → Option PitonFault
fault_of Memory = None
fault_of fault = Some fault

-- the call returned exactly what the definition gives, seen through the view; memory runs out only where it was refused
abbrev pub GivesPitonUnless : {X Y : Type 0} → Type 0 → (X → Y) → Result X PitonFault → Result Y PitonFault → Type 0
GivesPitonUnless refused view result value = common.GivesUnless refused fault_of view result value

-- The system's tree has the form of a tree, and is that system but for places. Every system that was read keeps the
-- form, and each that keeps it can be printed.
abbrev pub KeepsForm : SystemOf → Type 0
KeepsForm = KeepsFormOf piton_reader

-- the text is the system's but for places
abbrev pub ReadsAs : List ℕ → SystemOf → Type 0
ReadsAs = ReadsBack piton_reader
