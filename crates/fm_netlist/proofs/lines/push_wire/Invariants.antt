use Rattle.std.proofs.Common.{◌≡◌, ◌≤◌, ◌++◌}
use Rattle.fm_circuit.specs.Widths.{width_of}
use Rattle.fm_netlist.specs.NetlistText.{below, bit_lines}
use Rattle.fm_netlist.proofs.lines.push_wire.Given as goal

-- the texts so far
abbrev pub invariant-loop-i : goal.invariant-loop-i
invariant-loop-i l = (l.i ≤ width_of l.wire) × (l.text.items ≡ l.initial.text.items ++ below (bit_lines l.wire) l.i)
