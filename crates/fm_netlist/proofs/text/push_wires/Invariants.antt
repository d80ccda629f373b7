use Rattle.std.{proofs.Common.{◌≡◌, ◌++◌, drop}, specs.List.flat_map}
use Rattle.fm_netlist.specs.NetlistText.{wire_lines}
use Rattle.fm_netlist.proofs.text.push_wires.Given as goal

-- the lines so far and those of what is left are those of all
abbrev pub invariant-loop-wire : goal.invariant-loop-wire
invariant-loop-wire l = l.text.items ++ flat_map wire_lines (drop l.wire-index l.wires) ≡ l.initial.text.items ++ flat_map wire_lines l.wires
