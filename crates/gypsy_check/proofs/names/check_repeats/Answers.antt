use Rattle.std.proofs.Common.{◌+◌, [], take}
use Rattle.stack_text.specs.Names.{is_among}
use Rattle.gypsy_check.proofs.RepeatLaws.{known_more, noted_more, list_more}
use Rattle.gypsy_check.proofs.names.check_repeats.Goals as goal

pub loop-name-preserved : goal.loop-name-preserved
loop-name-preserved g c =
    let one = c.name-item.result in
    let more = list_more [] c.args.names.now c.loop-name.name-index one c.loop-name-test.true c.name-item.is in
    record {
      known = known_more (take c.loop-name.name-index c.args.names.now) (take (c.loop-name.name-index + 1) c.args.names.now) one
          c.loop-name.earlier c.enter.new.names more c.loop-name.invariant.known c.in_ok-enter.ensures.entered;
      noted = noted_more c.args.rule (take c.loop-name.name-index c.args.names.now) (take (c.loop-name.name-index + 1) c.args.names.now) one
          c.args.best.now c.loop-name.best c.enter.new.best (λ name. is_among name c.loop-name.earlier) more
          c.loop-name.invariant.known c.loop-name.invariant.noted c.in_ok-enter.ensures.noted;
    }
