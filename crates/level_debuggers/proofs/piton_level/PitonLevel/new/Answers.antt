use Rattle.std.proofs.Common.{sym, subst}
use Rattle.piton_check.specs.PitonChecking.{CheckedOf}
use Rattle.piton_semantics.{specs.Fits.system_in, specs.StateView.IsSeen}
use Rattle.level_debuggers.proofs.piton_level.PitonLevel.new.Goals as goal

pub new-requires : goal.new-requires
new-requires g c = record { small = c.requires.small }

pub invariant_of-result : goal.invariant_of-result
invariant_of-result g c = subst (λ (k : CheckedOf). IsSeen (system_in k) c.args.state) (sym c.in-Ok.ensures) c.requires.seen
