use Rattle.std.proofs.Common.{◌≡◌, ◌++◌, map, drop}
use Rattle.gypsy_meaning.specs.Views.Named.{shown_names}
use Rattle.gypsy_meaning.proofs.names.append_conditions.Given as goal

abbrev pub invariant-loop-name : goal.invariant-loop-name
invariant-loop-name g l =
    l.conditions.items ++ shown_names (map (λ n. n.name) (drop l.name-index l.names)) ≡
    l.initial.conditions.items ++ shown_names (map (λ n. n.name) l.names)
