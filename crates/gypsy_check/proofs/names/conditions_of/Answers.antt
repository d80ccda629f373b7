use Rattle.std.proofs.Common.{◌+◌, ◌++◌, [], take}
use Rattle.stack_text.specs.Names.{is_among}
use Rattle.gypsy_check.proofs.RepeatLaws.{known_more, noted_more, list_more}
use Rattle.gypsy_check.proofs.names.conditions_of.Goals as goal

pub loop-cond-preserved : goal.loop-cond-preserved
loop-cond-preserved g c =
    let one = c.cond-item.result in
    let more = list_more [] c.args.conds.now c.loop-cond.cond-index one c.loop-cond-test.true c.cond-item.is in
    record {
      known = known_more (take c.loop-cond.cond-index c.args.conds.now) (take (c.loop-cond.cond-index + 1) c.args.conds.now) one
          c.loop-cond.earlier c.enter.new.names more c.loop-cond.invariant.known c.in_ok-enter.ensures.entered;
      noted = noted_more 5 (take c.loop-cond.cond-index c.args.conds.now) (take (c.loop-cond.cond-index + 1) c.args.conds.now) one c.args.best.now
          c.loop-cond.best c.enter.new.best (λ name. is_among name c.loop-cond.earlier) more c.loop-cond.invariant.known
          c.loop-cond.invariant.noted c.in_ok-enter.ensures.noted;
    }

pub loop-local-preserved : goal.loop-local-preserved
loop-local-preserved g c =
    let one = c.local-item.result in
    let more = list_more c.args.conds.now c.args.local_conds.now c.loop-local.local-index one c.loop-local-test.true c.local-item.is in
    record {
      known = known_more (c.args.conds.now ++ take c.loop-local.local-index c.args.local_conds.now)
          (c.args.conds.now ++ take (c.loop-local.local-index + 1) c.args.local_conds.now) one c.loop-local.earlier
          c.enter-in-loop-local.new.names more c.loop-local.invariant.known c.in_ok-enter-2.ensures.entered;
      noted = noted_more 5 (c.args.conds.now ++ take c.loop-local.local-index c.args.local_conds.now)
          (c.args.conds.now ++ take (c.loop-local.local-index + 1) c.args.local_conds.now) one c.args.best.now c.loop-local.best
          c.enter-in-loop-local.new.best (λ name. is_among name c.loop-local.earlier) more c.loop-local.invariant.known
          c.loop-local.invariant.noted c.in_ok-enter-2.ensures.noted;
    }
