use Rattle.std.{proofs.Common.take, specs.List.flat_map}
use Rattle.stack_text.specs.Breaches.{Notes}
use Rattle.gypsy_syntax.specs.Views.SourceView.{proc_of, source_of}
use Rattle.gypsy_check.proofs.NoteLaws.{statement_breaks}
use Rattle.gypsy_check.proofs.statements.+statements.Given as goal

-- those so far
abbrev pub invariant-check_parts-loop-part : goal.invariant-check_parts-loop-part
invariant-check_parts-loop-part g l =
    Notes l.fn.best (flat_map (statement_breaks (source_of l.callees.source.now) (proc_of l.scope) l.in_loop) (take l.part-index l.parts)) l.best
