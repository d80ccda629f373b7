use Rattle.std.proofs.Common.{sym}
use Rattle.fm_loader.proofs.FitLaws.{fits_is_value}
use Rattle.fm_loader.proofs.judging.value.Goals as goal

pub invariant_of-result : goal.invariant_of-result
invariant_of-result g c = rw (← c.in_ok-items.ensures) (fits_is_value c.args.shape c.args.entry.now.value (sym c.in_default.ensures))
