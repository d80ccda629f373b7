-- What checking a source returns.
use Rattle.std.specs.Prelude.{◌≡◌, Some}
use Rattle.stack_text.specs.Breaches.{least}
use Rattle.gypsy_syntax.specs.Sources.{SourceOf}
use Rattle.gypsy_check.specs.{declared.fault.CheckFault.{CheckFault}, declared.fault.CheckFault.TheVariants.{Violation, Memory}}
use Rattle.gypsy_check.specs.Rules.{violations}

-- the least of all breaches; out of memory comes only where memory was refused
abbrev pub IsLeastUnless : Type 0 → SourceOf → CheckFault → Type 0
IsLeastUnless refused s (Violation rule place) = least (violations s) ≡ Some (record { rule = rule; place = place })
IsLeastUnless refused s Memory = refused

-- the same of callers that pass the library's heap, of which nothing says when it refuses
abbrev pub IsLeast : SourceOf → CheckFault → Type 0
IsLeast s fault = IsLeastUnless (Unit {0}) s fault
