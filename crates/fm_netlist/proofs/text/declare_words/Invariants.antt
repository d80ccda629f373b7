use Rattle.std.proofs.Common.{◌≡◌, ◌≤◌, ◌++◌}
use Rattle.fm_netlist.specs.NetlistText.{below, word_declared}
use Rattle.fm_netlist.proofs.text.declare_words.Given as goal

-- the texts so far
abbrev pub invariant-loop-r : goal.invariant-loop-r
invariant-loop-r l = (l.r ≤ 16) × (l.text.items ≡ l.initial.text.items ++ below word_declared l.r)
