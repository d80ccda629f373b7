use Rattle.std.proofs.Common.{◌++◌, ◌∙◌, ap, List, ℕ}
use Rattle.fm_netlist.proofs.PieceLaws.{bit_is}
use Rattle.fm_netlist.proofs.lines.push_gate.Goals as goal

pub returns : goal.returns
returns c = c.in_ok-push_driven.ensures ∙ ap (λ (t : List ℕ). c.args.text.now.items ++ t) (bit_is c.args.wire c.args.driver c.args.i)
