use Rattle.std.{proofs.Common.map, proofs.lemmas.Result.err_from_is_err_and}
use Rattle.stack_text.{specs.Views.TreeView.node_of, specs.Grammar.Parts.list_or, proofs.PartLaws.{first_of_2, first_of_3, first_of_4, first_of_5, first_of_6}}
use Rattle.gypsy_syntax.{specs.Grammar.{decl_in, local_in, named_in, names_in, statement_in}, specs.Made.new_proc, specs.Views.SourceView.local_of}
use Rattle.gypsy_syntax.proofs.reading.procedure.procedure_parts.Goals as goal

pub returns-in_err-name : goal.returns-in_err-name
returns-in_err-name g c =
    let p = err_from_is_err_and c.from_residual.result c.from_residual.ensures.1 in
    rw (p.1, p.2)
    (first_of_6 (g.H.Heap.may_refuse c.args.heap) c.in_err-name.field-0.0 (new_proc c.args.place) (named_in (node_of c.args.trees.name.now))
    (list_or 4 decl_in (node_of c.args.trees.formals.now)) (names_in (node_of c.args.trees.conds.now))
    (list_or 6 local_in (node_of c.args.trees.locals.now)) (names_in (node_of c.args.trees.local_conds.now))
    (statement_in (node_of c.args.trees.body.now)) c.in_err-name.ensures)

pub returns-in_err-formals : goal.returns-in_err-formals
returns-in_err-formals g c =
    let p = err_from_is_err_and c.from_residual-in_err-formals.result c.from_residual-in_err-formals.ensures.1 in
    rw (p.1, p.2, c.in_ok-name.ensures)
    (first_of_5 (g.H.Heap.may_refuse c.args.heap) c.in_err-formals.field-0.0 (new_proc c.args.place c.in_ok-name.name)
    (list_or 4 decl_in (node_of c.args.trees.formals.now)) (names_in (node_of c.args.trees.conds.now))
    (list_or 6 local_in (node_of c.args.trees.locals.now)) (names_in (node_of c.args.trees.local_conds.now))
    (statement_in (node_of c.args.trees.body.now)) c.in_err-formals.ensures)

pub returns-in_err-conds : goal.returns-in_err-conds
returns-in_err-conds g c =
    let p = err_from_is_err_and c.from_residual-in_err-conds.result c.from_residual-in_err-conds.ensures.1 in
    rw (p.1, p.2, c.in_ok-name.ensures, c.in_ok-formals.ensures)
    (first_of_4 (g.H.Heap.may_refuse c.args.heap) c.in_err-conds.field-0.0 (new_proc c.args.place c.in_ok-name.name c.in_ok-formals.formals.items)
    (names_in (node_of c.args.trees.conds.now)) (list_or 6 local_in (node_of c.args.trees.locals.now))
    (names_in (node_of c.args.trees.local_conds.now)) (statement_in (node_of c.args.trees.body.now)) c.in_err-conds.ensures)

pub returns-in_err-locals : goal.returns-in_err-locals
returns-in_err-locals g c =
    let p = err_from_is_err_and c.from_residual-in_err-locals.result c.from_residual-in_err-locals.ensures.1 in
    rw (p.1, p.2, c.in_ok-name.ensures, c.in_ok-formals.ensures, c.in_ok-conds.ensures)
    (first_of_3 (g.H.Heap.may_refuse c.args.heap) c.in_err-locals.field-0.0
    (new_proc c.args.place c.in_ok-name.name c.in_ok-formals.formals.items c.in_ok-conds.conds.items)
    (list_or 6 local_in (node_of c.args.trees.locals.now)) (names_in (node_of c.args.trees.local_conds.now))
    (statement_in (node_of c.args.trees.body.now)) c.in_err-locals.ensures)

pub returns-in_err-local_conds : goal.returns-in_err-local_conds
returns-in_err-local_conds g c =
    let p = err_from_is_err_and c.from_residual-in_err-local_conds.result c.from_residual-in_err-local_conds.ensures.1 in
    rw (p.1, p.2, c.in_ok-name.ensures, c.in_ok-formals.ensures, c.in_ok-conds.ensures, c.in_ok-locals.ensures)
    (first_of_2 (g.H.Heap.may_refuse c.args.heap) c.in_err-local_conds.field-0.0
    (new_proc c.args.place c.in_ok-name.name c.in_ok-formals.formals.items c.in_ok-conds.conds.items (map local_of c.in_ok-locals.locals.items))
    (names_in (node_of c.args.trees.local_conds.now)) (statement_in (node_of c.args.trees.body.now)) c.in_err-local_conds.ensures)
