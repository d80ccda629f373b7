use Rattle.std.proofs.Common.{take}
use Rattle.gypsy_space.specs.Callees.{KnowsPositions, names_of}
use Rattle.gypsy_space.proofs.callees.positions_of.Given as goal

-- the procedures so far
abbrev pub invariant-loop-index : goal.invariant-loop-index
invariant-loop-index g l = KnowsPositions l.positions (names_of (take l.index l.procs))
