use Rattle.std.{proofs.Common.{◌≡◌, ◌++◌, drop, map}, specs.List.flat_map}
use Rattle.display_maps.{specs.Report.variable_line, specs.Variable.variable_of_line}
use Rattle.display_maps.proofs.printing.push_lines.Given as goal

-- the lines so far and those of what is left are those of all
abbrev pub invariant-loop-variable : goal.invariant-loop-variable
invariant-loop-variable g l =
    l.text.items ++ flat_map variable_line (map variable_of_line (drop l.variable-index l.variables))
    ≡ l.initial.text.items ++ flat_map variable_line (map variable_of_line l.variables)
