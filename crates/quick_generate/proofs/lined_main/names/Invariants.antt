use Rattle.std.proofs.Common.{◌≡◌, length}
use Rattle.quick_generate.proofs.lined_main.names.Given as goal

abbrev pub invariant-loop-name : goal.invariant-loop-name
invariant-loop-name g l = length l.made.items ≡ l.name-index
