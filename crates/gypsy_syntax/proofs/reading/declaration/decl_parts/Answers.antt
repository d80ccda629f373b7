use Rattle.std.proofs.lemmas.Result.{err_from_is_err_and}
use Rattle.stack_text.{specs.Views.TreeView.node_of, specs.declared.grammar.fault.FormFault.TheVariants.Form, proofs.PartLaws.{first_of_2, first_of_value}}
use Rattle.gypsy_syntax.{specs.Grammar.{named_in, type_in}, specs.Made.new_decl}
use Rattle.gypsy_syntax.proofs.reading.declaration.decl_parts.Goals as goal

pub returns-in_err-name : goal.returns-in_err-name
returns-in_err-name g c =
    let p = err_from_is_err_and c.from_residual.result c.from_residual.ensures.1 in
    rw (p.1, p.2)
    (first_of_2 (g.H.Heap.may_refuse c.args.heap) c.in_err-name.field-0.0 new_decl (named_in (node_of c.args.name.now))
    (type_in (node_of c.args.shape.now)) c.in_err-name.ensures)

pub returns-in_err-shape : goal.returns-in_err-shape
returns-in_err-shape g c =
    let p = err_from_is_err_and c.from_residual-in_err-shape.result c.from_residual-in_err-shape.ensures.1 in
    rw (p.1, p.2, c.in_ok-name.ensures)
    (first_of_value (g.H.Heap.may_refuse c.args.heap) (Form c.in_err-shape.field-0.0.rule c.in_err-shape.field-0.0.place) (new_decl c.in_ok-name.name)
    (type_in (node_of c.args.shape.now)) c.in_err-shape.ensures)
