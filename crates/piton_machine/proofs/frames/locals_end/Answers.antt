use Rattle.std.proofs.Common.{reverse, arith}
use Rattle.piton_machine.proofs.FrameLaws.{end_newest, end_older}
use Rattle.piton_machine.proofs.frames.locals_end.Goals as goal

pub returns-then-number-eq0 : goal.returns-then-number-eq0
returns-then-number-eq0 c = end_newest c.args.words (reverse c.args.links.now) c.args.number (omega (arith, c.if-number-eq0.true))

pub returns : goal.returns
returns c = end_older c.args.words c.args.links.now c.args.number _ (omega (arith, c.if-number-eq0.false)) c.requires
