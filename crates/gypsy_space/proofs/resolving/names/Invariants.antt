use Rattle.std.proofs.Common.{◌≡◌, ◌++◌, map, drop}
use Rattle.gypsy_space.proofs.resolving.names.Given as goal

abbrev pub invariant-loop-cond : goal.invariant-loop-cond
invariant-loop-cond g l = l.names.items ++ map (λ n. n.name) (drop l.cond-index l.conds) ≡ map (λ n. n.name) l.conds
