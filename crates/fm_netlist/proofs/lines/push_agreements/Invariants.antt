use Rattle.std.proofs.Common.{◌≡◌, ◌≤◌, ◌++◌}
use Rattle.fm_netlist.{specs.NetlistText.below, specs.Pieces.agreeing_text}
use Rattle.fm_netlist.proofs.lines.push_agreements.Given as goal

-- the texts so far
abbrev pub invariant-loop-i : goal.invariant-loop-i
invariant-loop-i l = (l.i ≤ l.n) × (l.text.items ≡ l.initial.text.items ++ below (agreeing_text l.p l.q) l.i)
