use Rattle.std.proofs.Common.{◌≡◌, ◌++◌, map, drop}
use Rattle.gypsy_syntax.{specs.Resolved.variable_of, specs.Views.SourceView.proc_of}
use Rattle.gypsy_space.proofs.resolving.variables.Given as goal

abbrev pub invariant-loop-name : goal.invariant-loop-name
invariant-loop-name g l = l.variables.items ++ map (variable_of (proc_of l.proc)) (drop l.name-index l.names) ≡ map (variable_of (proc_of l.proc)) l.names
