use Rattle.std.proofs.lemmas.Result.{err_from_is_err_and}
use Rattle.stack_text.{specs.Views.TreeView.{node_of, nodes_of}, specs.Grammar.Judged.each_of, proofs.PartLaws.first_of_2}
use Rattle.gypsy_syntax.{specs.Grammar.{named_in, procedure_in}, specs.Made.new_source}
use Rattle.gypsy_syntax.proofs.reading.procedure.source_parts.Goals as goal

pub returns-in_err-main : goal.returns-in_err-main
returns-in_err-main g c =
    let p = err_from_is_err_and c.from_residual.result c.from_residual.ensures.1 in
    rw (p.1, p.2)
    (first_of_2 (g.H.Heap.may_refuse c.args.heap) c.in_err-main.field-0.0 (new_source c.args.place) (named_in (node_of c.args.main.now))
    (each_of procedure_in (nodes_of c.args.procs.now)) c.in_err-main.ensures)
