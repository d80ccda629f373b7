use Rattle.std.proofs.Common.{◌≡◌, ◌++◌, map, drop}
use Rattle.gypsy_syntax.specs.ProgramFits.{Each}
use Rattle.gypsy_space.specs.Nodes.{seen_arg, seen_program}
use Rattle.gypsy_codegen.{specs.Generated.push_args, specs.Lines.unmarked, specs.Internal.Views.{ArgHasWord, names_of}, specs.Written.written}
use Rattle.gypsy_codegen.proofs.apply.push_args.Given as goal

abbrev pub invariant-loop-arg : goal.invariant-loop-arg
invariant-loop-arg g l = record {
  words : Each (ArgHasWord (seen_program l.context.program.now) l.context.procedure) (map seen_arg (drop l.arg-index l.args));
  lines :
      l.emitter ++ map (written (names_of l.context))
      (unmarked (push_args (seen_program l.context.program.now) l.context.procedure (map seen_arg (drop l.arg-index l.args)))) ≡
      l.fn.emitter ++ map (written (names_of l.context)) (unmarked (push_args (seen_program l.context.program.now) l.context.procedure (map seen_arg l.args)));
}
