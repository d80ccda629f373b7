use Rattle.std.proofs.Common.{◌≡◌, ◌≤◌, ◌++◌}
use Rattle.fm_netlist.{specs.NetlistText.below, specs.Pieces.opening_text}
use Rattle.fm_netlist.proofs.lines.push_opening.Given as goal

-- the texts so far
abbrev pub invariant-loop : goal.invariant-loop
invariant-loop l = (l.counter ≤ l.n) × (l.text.items ≡ l.initial.text.items ++ below opening_text l.counter)
