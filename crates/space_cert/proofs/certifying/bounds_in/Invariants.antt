use Rattle.std.proofs.Common.{◌≡◌, reverse, take}
use Rattle.space_cert.{specs.Order.bounds_by_needs, specs.Internal.SearchView.seen_calls}
use Rattle.space_cert.proofs.certifying.bounds_in.Given as goal

abbrev pub invariant-loop-procedure : goal.invariant-loop-procedure
invariant-loop-procedure g l =
    l.bounds.items ≡ bounds_by_needs l.needs.procedures.items (seen_calls l.calls) (reverse (take l.procedure-index l.order))
