use Rattle.std.proofs.Common.{◌++◌, ◌∙◌, ap, List, ℕ}
use Rattle.fm_netlist.proofs.PieceLaws.{carry_is}
use Rattle.fm_netlist.proofs.lines.push_carry_gate.Goals as goal

pub returns : goal.returns
returns c =
    c.in_ok-push_carried.ensures
    ∙ ap (λ (t : List ℕ). c.args.text.now.items ++ t) (carry_is c.args.wire c.args.p c.args.q c.args.carry c.args.i)
