use Rattle.std.proofs.Common.{◌≡◌, ◌++◌, ◌+◌, map, drop}
use Rattle.gypsy_space.specs.Nodes.{seen_cond, seen_program}
use Rattle.gypsy_codegen.{specs.Lines.marked_raises, specs.Internal.Views.{env, names_of}, specs.Written.written}
use Rattle.gypsy_codegen.proofs.calls.raises.Given as goal

abbrev pub invariant-loop-number : goal.invariant-loop-number
invariant-loop-number g l =
    l.emitter ++ map (written (names_of l.context))
    (marked_raises (seen_program l.context.program.now) l.context.procedure (env l.scopes) (l.first + l.number)
    (map seen_cond (drop l.number l.conds))) ≡
    l.fn.emitter ++ map (written (names_of l.context))
    (marked_raises (seen_program l.context.program.now) l.context.procedure (env l.scopes) l.first (map seen_cond l.conds))
