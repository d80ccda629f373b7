-- The rules of values files, and what a call says that breaks one.
use Rattle.std.specs.Prelude.{ℕ, Option, Some, None, Result}
use Rattle.stack_text.specs.Gives as common
use Rattle.fm_loader.specs.{declared.fault.Rule.{Rule}, declared.fault.ValuesFault.{ValuesFault}}
use Rattle.fm_loader.specs.declared.fault.ValuesFault.TheVariants.{Refused, Memory}
use Rattle.fm_loader.specs.declared.fault.Rule.TheVariants as rules

-- V1 to V7
abbrev pub rule_number : Rule → ℕ
rule_number rules.Form = 1
rule_number rules.Unknown = 2
rule_number rules.Repeated = 3
rule_number rules.Missing = 4
rule_number rules.Kind = 5
rule_number rules.Length = 6
rule_number rules.Range = 7

-- the number of a rule, and a place
abbrev pub Fault : Type 0
Fault = ℕ × ℕ

abbrev pub fault_of : ValuesFault → Option Fault
fault_of (Refused rule place) = Some (rule, place)
fault_of Memory = None

-- the fault is the definition's; out of memory comes only where memory was refused
abbrev pub FailsUnless : {Y : Type 0} → Type 0 → ValuesFault → Result Y Fault → Type 0
FailsUnless refused fault value = common.FailsUnless refused (fault_of fault) value

-- the call returned exactly what the definition gives, seen through the view, unless memory was refused
abbrev pub GivesValuesUnless : {X Y : Type 0} → Type 0 → (X → Y) → Result X ValuesFault → Result Y Fault → Type 0
GivesValuesUnless refused view result value = common.GivesUnless refused fault_of view result value

-- the same of callers that pass the library's heap, of which nothing says when it refuses
abbrev pub Fails : {Y : Type 0} → ValuesFault → Result Y Fault → Type 0
Fails fault value = FailsUnless (Unit {0}) fault value

abbrev pub GivesValues : {X Y : Type 0} → (X → Y) → Result X ValuesFault → Result Y Fault → Type 0
GivesValues view result value = GivesValuesUnless (Unit {0}) view result value
