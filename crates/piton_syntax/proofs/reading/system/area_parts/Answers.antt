use Rattle.std.proofs.lemmas.Result.{err_from_is_err_and}
use Rattle.stack_text.{specs.Views.TreeView.{node_of, nodes_of}, specs.Grammar.Judged.each_of, proofs.PartLaws.first_of_2}
use Rattle.piton_syntax.{specs.Grammar.{named_of, word_of}, specs.Systems.new_area}
use Rattle.piton_syntax.proofs.reading.system.area_parts.Goals as goal

pub returns-in_err-name : goal.returns-in_err-name
returns-in_err-name g c =
    let p = err_from_is_err_and c.from_residual.result c.from_residual.ensures.1 in
    rw (p.1, p.2) (first_of_2 (g.H.Heap.may_refuse c.args.heap) c.in_err-name.field-0.0 (new_area c.args.place) (named_of (node_of c.args.name.now))
    (each_of word_of (nodes_of c.args.words.now)) c.in_err-name.ensures)
