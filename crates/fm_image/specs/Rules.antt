-- The rules of image files, and what a call says that breaks one.
use Rattle.std.specs.Prelude.{ℕ, List, Option, Some, None, Result}
use Rattle.stack_text.specs.Gives as common
use Rattle.fm_image.specs.{declared.fault.Rule.{Rule}, declared.fault.Refusal.{Refusal}, declared.fault.ImageFault.{ImageFault}}
use Rattle.fm_image.specs.declared.fault.ImageFault.TheVariants.{Refused, Memory}
use Rattle.fm_image.specs.declared.fault.Rule.TheVariants as rules

-- I1 to I9
abbrev pub rule_number : Rule → ℕ
rule_number rules.Magic = 1
rule_number rules.Version = 2
rule_number rules.Truncated = 3
rule_number rules.Trailing = 4
rule_number rules.Limit = 5
rule_number rules.Name = 6
rule_number rules.Address = 7
rule_number rules.Repeated = 8
rule_number rules.Order = 9

-- the number of a rule, and a place
abbrev pub Fault : Type 0
Fault = ℕ × ℕ

-- A parser takes the bytes that are left to a value and the bytes after it, or to the first fault.
abbrev pub Parser : Type 0 → Type 0
Parser A = List ℕ → Result (A × List ℕ) Fault

abbrev pub refusal_of : Refusal → Option Fault
refusal_of refusal = Some (rule_number refusal.rule, refusal.place)

-- what a call that takes no memory returned, seen by view, is what reading gives
abbrev pub GivesExactly : {X Y : Type 0} → (X → Y) → Result X Refusal → Result Y Fault → Type 0
GivesExactly view result read = common.Gives refusal_of view result read

abbrev pub fault_of : ImageFault → Option Fault
fault_of (Refused rule place) = Some (rule, place)
fault_of Memory = None

abbrev pub FailsUnless : {Y : Type 0} → Type 0 → ImageFault → Result Y Fault → Type 0
FailsUnless refused e read = common.FailsUnless refused (fault_of e) read

-- the same for a call that may run out of memory, but only where memory was refused
abbrev pub GivesImageUnless : {X Y : Type 0} → Type 0 → (X → Y) → Result X ImageFault → Result Y Fault → Type 0
GivesImageUnless refused view result read = common.GivesUnless refused fault_of view result read
