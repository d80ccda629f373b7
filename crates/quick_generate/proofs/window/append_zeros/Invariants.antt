use Rattle.std.proofs.Common.{◌≡◌, ◌++◌, replicate}
use Rattle.quick_generate.proofs.window.append_zeros.Given as goal

-- one more for each round so far
abbrev pub invariant-loop : goal.invariant-loop
invariant-loop g l = l.numbers.items ≡ l.fn.numbers.items ++ replicate l.counter 0
