use Rattle.std.proofs.Common.{◌≡◌, ◌++◌, ◌∷◌, map, drop}
use Rattle.display_maps.specs.Reading.{space_name}
use Rattle.quick_generate.proofs.generating.condition_names.Given as goal

abbrev pub invariant-loop-condition : goal.invariant-loop-condition
invariant-loop-condition g l = l.names.items ++ map (λ n. n.name) (drop l.condition-index l.conditions) ≡ space_name ∷ map (λ n. n.name) l.conditions
