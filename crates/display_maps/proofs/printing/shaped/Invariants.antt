use Rattle.std.proofs.Common.{◌≡◌, ◌++◌, drop, map}
use Rattle.display_maps.{specs.Report.shaped, specs.Variable.variable_of_line}
use Rattle.display_maps.proofs.printing.shaped.Given as goal

-- the variables so far and those of what is left are all
abbrev pub invariant-loop-place : goal.invariant-loop-place
invariant-loop-place g l =
    map variable_of_line l.variables.items ++ shaped (drop l.place l.slots) (map (λ item. (item.0, item.1.items)) (drop l.place l.read))
    ≡ shaped l.slots (map (λ item. (item.0, item.1.items)) l.read)
