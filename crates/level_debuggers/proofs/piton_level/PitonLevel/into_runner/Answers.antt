use Rattle.std.proofs.Common.{◌≡◌, ◌≤◌, ◌^◌, sym, subst}
use Rattle.piton_check.specs.PitonChecking.{CheckedOf}
use Rattle.piton_semantics.{specs.Fits.system_in, specs.Placed.placed, specs.StateView.IsSeen}
use Rattle.level_debuggers.proofs.piton_level.PitonLevel.into_runner.Goals as goal

pub returns-clause-is : goal.returns-clause-is
returns-clause-is c =
    let same : c.self.inside.placed ≡ c.into_checked.result = sym c.into_checked.ensures.value in (
      subst (λ (k : CheckedOf). IsSeen (system_in k) c.self.inside.state) same c.self.invariant,
      subst (λ (k : CheckedOf). (placed (system_in k)).size ≤ 2 ^ 20) same c.into_checked.ensures.small,
    )
