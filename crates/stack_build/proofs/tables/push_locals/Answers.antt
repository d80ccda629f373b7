use Rattle.std.proofs.Common.{arith}
use Rattle.stack_build.{specs.Internal.Listing.offset_in, proofs.ListingLaws.{one_more, info_next}}
use Rattle.stack_build.proofs.tables.push_locals.Goals as goal

pub loop-local-preserved : goal.loop-local-preserved
loop-local-preserved g c =
    let pushed = rw c.shape_of.ensures at c.in_ok-push_variable.ensures in
    let number = one_more _ _ _ pushed in
    record {
      listed = info_next (offset_in c.args.order) (λ x. x.0) (λ x. x.1.shape) c.args.locals.now c.loop-local.local-index c.local-item.result
          _ _ _ c.loop-local-test.true c.local-item.is pushed c.loop-local.invariant.listed;
      there = omega (arith, number, c.loop-local.invariant.there);
    }
