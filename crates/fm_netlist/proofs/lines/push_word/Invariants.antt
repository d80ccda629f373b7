use Rattle.std.proofs.Common.{◌≡◌, ◌≤◌, ◌++◌}
use Rattle.fm_netlist.specs.NetlistText.{below, file_line}
use Rattle.fm_netlist.proofs.lines.push_word.Given as goal

-- the texts so far
abbrev pub invariant-loop-i : goal.invariant-loop-i
invariant-loop-i l = (l.i ≤ 32) × (l.text.items ≡ l.initial.text.items ++ below (file_line l.r) l.i)
