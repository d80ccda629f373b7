use Rattle.std.proofs.Common.{◌≡◌, ◌++◌, replicate, false}
use Rattle.gypsy_codegen.proofs.handled.append_false.Given as goal

-- one more for each round so far
abbrev pub invariant-loop : goal.invariant-loop
invariant-loop g l = l.table.items ≡ l.fn.table.items ++ replicate l.counter false
