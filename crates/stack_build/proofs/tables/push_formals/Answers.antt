use Rattle.std.proofs.Common.{arith}
use Rattle.stack_build.{specs.Internal.Listing.offset_in, proofs.ListingLaws.{one_more, info_next}}
use Rattle.stack_build.proofs.tables.push_formals.Goals as goal

pub loop-formal-preserved : goal.loop-formal-preserved
loop-formal-preserved g c =
    let pushed = c.in_ok-push_variable.ensures in
    let number = one_more _ _ _ pushed in
    record {
      listed = info_next (offset_in c.args.order) (λ x. x.0) (λ x. x.1) c.args.formals.now c.loop-formal.formal-index c.formal-item.result
          _ _ _ c.loop-formal-test.true c.formal-item.is pushed c.loop-formal.invariant.listed;
      there = omega (arith, number, c.loop-formal.invariant.there);
    }
