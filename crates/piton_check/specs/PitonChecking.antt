-- What checking a system returns, and what is known of one that was checked.
use Rattle.std.specs.Prelude.{◌≡◌, [], Some}
use Rattle.piton_syntax.specs.{PitonReading.{KeepsForm}, Systems.{SystemOf}}
use Rattle.piton_check.specs.{declared.fault.CheckFault.{CheckFault}, declared.fault.CheckFault.TheVariants.{Violation, Memory}}
use Rattle.piton_check.specs.{Instruction.{system_view}, Resolved.{ResolvedOf, resolved}, Sound.{IsSound}, Violations.{violations}}
use Rattle.stack_text.specs.Breaches.{least}

pub record CheckedOf : Type 0 where
  pub system : SystemOf
  pub resolved : ResolvedOf

-- a system that keeps the form and breaks no rule, its names resolved, and all that it then names there
pub record IsChecked (c : CheckedOf) : Type 0 where
  pub form : KeepsForm c.system
  pub rules : violations c.system ≡ []
  pub names : c.resolved ≡ resolved c.system
  pub sound : IsSound (system_view c.resolved)

-- the least of all breaches; memory runs out only where it was refused
abbrev pub IsLeastUnless : Type 0 → SystemOf → CheckFault → Type 0
IsLeastUnless refused s (Violation rule place) = least (violations s) ≡ Some (record { rule = rule; place = place })
IsLeastUnless refused s Memory = refused
