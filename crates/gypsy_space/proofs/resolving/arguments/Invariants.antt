use Rattle.std.proofs.Common.{◌≡◌, ◌++◌, map, drop}
use Rattle.gypsy_syntax.{specs.Resolved.argument_of, specs.Views.SourceView.{arg_of, proc_of}}
use Rattle.gypsy_space.specs.Nodes.{seen_arg}
use Rattle.gypsy_space.proofs.resolving.arguments.Given as goal

abbrev pub invariant-loop-arg : goal.invariant-loop-arg
invariant-loop-arg g l = map seen_arg l.arguments.items ++ map (argument_of (proc_of l.proc)) (map arg_of (drop l.arg-index l.args))
    ≡ map (argument_of (proc_of l.proc)) (map arg_of l.args)
