use Rattle.std.proofs.Common.{◌∙◌}
use Rattle.mini_syntax.proofs.MachineLaws.{left_out, refused, then_more}
use Rattle.mini_syntax.proofs.expected.take.Goals as goal

pub returns-in-Refused : goal.returns-in-Refused
returns-in-Refused g c =
    c.loop-top.invariant ∙ refused c.loop-top.stack.items c.pop.new.self.items c.in-Some.top c.args.kind c.in-Some.ensures.items c.in-Refused.ensures

pub loop-top-preserved : goal.loop-top-preserved
loop-top-preserved g c =
    c.loop-top.invariant ∙ left_out c.loop-top.stack.items c.pop.new.self.items c.in-Some.top c.args.kind c.in-Some.ensures.items c.in-LeftOut.ensures

pub returns-in-Then : goal.returns-in-Then
returns-in-Then g c =
    c.loop-top.invariant
    ∙ then_more c.loop-top.stack.items c.pop.new.self.items c.expect.new.stack.items c.in-Some.top c.args.kind c.in-Then.what c.in-Some.ensures.items
    c.in-Then.ensures c.in_ok-expect-in-Then.ensures
