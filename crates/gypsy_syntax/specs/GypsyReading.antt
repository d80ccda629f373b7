-- What reading a text returns.
use Rattle.std.specs.Prelude.{ℕ, List, Option, Some, None, Result}
use Rattle.stack_text.specs.Gives as common
use Rattle.stack_text.specs.Grammar.TextReaders.{TextReader, value_in, KeepsFormOf, ReadsBack}
use Rattle.gypsy_syntax.specs.{declared.fault.GypsyFault.{GypsyFault}, declared.fault.GypsyFault.TheVariants.{Text, Form, Memory}}
use Rattle.gypsy_syntax.specs.{Grammar.{source_in}, Printed.{tree_of}, Places.{without_places}, Sources.{SourceOf}}

abbrev pub gypsy_reader : TextReader SourceOf GypsyFault
gypsy_reader = record {
  judge = source_in;
  tree = tree_of;
  unplaced = without_places;
  text_fault = Text;
  form_fault = Form;
  out_of_memory = Memory;
}

-- the source that a text has, or what is wrong with its tree, or why the text is no tree
abbrev pub gypsy_in : List ℕ → Result SourceOf GypsyFault
gypsy_in = value_in gypsy_reader

-- out of memory is no fault of a text
abbrev pub fault_of : GypsyFault → Option GypsyFault
fault_of Memory = None
fault_of fault = Some fault

-- the call returned exactly what the definition gives, seen through the view; memory runs out only where it was refused
abbrev pub GivesGypsyUnless : {X Y : Type 0} → Type 0 → (X → Y) → Result X GypsyFault → Result Y GypsyFault → Type 0
GivesGypsyUnless refused view result value = common.GivesUnless refused fault_of view result value

-- The source's tree has the form of a tree, and is that source but for places. Every source that was read keeps the
-- form, and each that keeps it can be printed.
abbrev pub KeepsForm : SourceOf → Type 0
KeepsForm = KeepsFormOf gypsy_reader

-- the text is the source's but for places
abbrev pub ReadsAs : List ℕ → SourceOf → Type 0
ReadsAs = ReadsBack gypsy_reader
