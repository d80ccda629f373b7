use Rattle.std.proofs.Common.{◌≡◌, ◌++◌, drop, map}
use Rattle.gypsy_space.specs.Nodes.{seen_arg}
use Rattle.quick_gypsy.specs.InLine.{arg_from}
use Rattle.quick_generate.proofs.in_main.InMain.arguments.Given as goal

abbrev pub invariant-loop-arg : goal.invariant-loop-arg
invariant-loop-arg g l =
    map seen_arg l.made.items ++ map (arg_from l.self.variables.items) (map seen_arg (drop l.arg-index l.args))
    ≡ map (arg_from l.self.variables.items) (map seen_arg l.args)
