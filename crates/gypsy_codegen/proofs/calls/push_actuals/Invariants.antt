use Rattle.std.proofs.Common.{◌≡◌, ◌++◌, map, drop}
use Rattle.gypsy_syntax.specs.ProgramFits.{Each}
use Rattle.gypsy_space.specs.Nodes.{seen_program}
use Rattle.gypsy_codegen.{specs.Generated.push_actuals, specs.Lines.unmarked, specs.Internal.Views.{HasWord, names_of}, specs.Written.written}
use Rattle.gypsy_codegen.proofs.calls.push_actuals.Given as goal

abbrev pub invariant-loop-actual : goal.invariant-loop-actual
invariant-loop-actual g l = record {
  words : Each (HasWord (seen_program l.context.program.now) l.context.procedure) (drop l.actual-index l.actuals);
  lines :
      l.emitter ++ map (written (names_of l.context))
      (unmarked (push_actuals (seen_program l.context.program.now) l.context.procedure (drop l.actual-index l.actuals))) ≡
      l.fn.emitter ++ map (written (names_of l.context)) (unmarked (push_actuals (seen_program l.context.program.now) l.context.procedure l.actuals));
}
