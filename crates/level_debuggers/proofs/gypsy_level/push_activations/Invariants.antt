use Rattle.std.{proofs.Common.{◌≡◌, ◌++◌, drop, map}, specs.List.flat_map}
use Rattle.gypsy_syntax.specs.Views.SourceView.{source_of}
use Rattle.level_debuggers.specs.GypsyLevels.{activation_lines}
use Rattle.level_debuggers.proofs.gypsy_level.push_activations.Given as goal

abbrev pub invariant-loop-activation : goal.invariant-loop-activation
invariant-loop-activation g l =
    l.text.items ++ flat_map (λ a. activation_lines (source_of l.accepted) a.procedure
    (map (λ v. v.0) a.variables.items) (map (λ v. v.1) a.variables.items)) (drop l.activation-index l.activations)
    ≡ l.initial.text.items ++ flat_map (λ a. activation_lines (source_of l.accepted) a.procedure
    (map (λ v. v.0) a.variables.items) (map (λ v. v.1) a.variables.items)) l.activations
