use Rattle.std.{proofs.Common.{◌≡◌, ◌++◌, drop, map}, specs.List.flat_map}
use Rattle.display_maps.{specs.Report.variable_line, specs.Running.variables_shown}
use Rattle.display_maps.proofs.running.push_variables.Given as goal

abbrev pub invariant-loop-variable : goal.invariant-loop-variable
invariant-loop-variable g l =
    l.text.items ++ flat_map variable_line (variables_shown (map (λ v. v.0) (drop l.variable-index l.variables))
    (map (λ v. v.1) (drop l.variable-index l.variables)))
    ≡ l.initial.text.items ++ flat_map variable_line (variables_shown (map (λ v. v.0) l.variables) (map (λ v. v.1) l.variables))
