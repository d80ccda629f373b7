use Rattle.std.proofs.Common.{◌++◌, ◌∙◌, ap, List, ℕ}
use Rattle.fm_netlist.proofs.PieceLaws.{written_is}
use Rattle.fm_netlist.proofs.lines.push_file_gate.Goals as goal

pub returns : goal.returns
returns c = c.in_ok-push_kept.ensures ∙ ap (λ (t : List ℕ). c.args.text.now.items ++ t) (written_is c.args.r c.args.i)
