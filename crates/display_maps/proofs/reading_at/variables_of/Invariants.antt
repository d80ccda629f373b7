use Rattle.std.proofs.Common.{◌≡◌, ◌++◌, drop, map}
use Rattle.display_maps.{specs.ReadingAt.read_variable, specs.Variable.variable_of_line}
use Rattle.display_maps.proofs.reading_at.variables_of.Given as goal

-- the variables so far and those of what is left are all
abbrev pub invariant-loop-item : goal.invariant-loop-item
invariant-loop-item g l =
    map variable_of_line l.variables.items ++ map read_variable (map (λ item. (item.0, item.1, item.2.items)) (drop l.item-index l.items))
    ≡ map read_variable (map (λ item. (item.0, item.1, item.2.items)) l.items)
