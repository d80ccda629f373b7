use Rattle.std.proofs.Common.{◌≡◌, ◌++◌, map, drop}
use Rattle.gypsy_syntax.{specs.Resolved.cond_of, specs.Views.SourceView.proc_of}
use Rattle.gypsy_space.specs.Nodes.{seen_cond}
use Rattle.gypsy_space.proofs.resolving.conditions.Given as goal

abbrev pub invariant-loop-name : goal.invariant-loop-name
invariant-loop-name g l = map seen_cond l.conditions.items ++ map (cond_of (proc_of l.proc)) (drop l.name-index l.names)
    ≡ map (cond_of (proc_of l.proc)) l.names
