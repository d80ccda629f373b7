use Rattle.std.proofs.Common.{sym, subst}
use Rattle.piton_check.specs.PitonChecking.{CheckedOf}
use Rattle.piton_semantics.{specs.Fits.system_in, specs.StateView.IsSeen}
use Rattle.level_debuggers.proofs.piton_level.PitonLevel.advance.Goals as goal

pub step-requires : goal.step-requires
step-requires c = subst (λ (k : CheckedOf). IsSeen (system_in k) c.self.inside.state) (sym c.checked-2.ensures.value) c.self.invariant

pub invariant_of-self : goal.invariant_of-self
invariant_of-self c = subst (λ (k : CheckedOf). IsSeen (system_in k) c.step.new.self) c.checked-2.ensures.value c.step.ensures.fits
