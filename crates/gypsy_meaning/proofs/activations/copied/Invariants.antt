use Rattle.std.proofs.Common.{◌≡◌, ◌++◌, drop}
use Rattle.gypsy_meaning.proofs.activations.copied.Given as goal

abbrev pub invariant-loop-variable : goal.invariant-loop-variable
invariant-loop-variable g l = l.copies.items ++ drop l.variable-index l.variables ≡ l.variables
