use Rattle.std.{proofs.Common.refl, proofs.lemmas.Result.err_from_is_err_and}
use Rattle.stack_text.{specs.Trees.place_of, specs.Views.TreeView.node_of, proofs.PartLaws.{first_of_2, first_of_3, first_of_value}}
use Rattle.gypsy_syntax.{specs.Grammar.{named_in, names_in}, specs.Made.new_call}
use Rattle.gypsy_syntax.proofs.reading.statements.call_parts.Goals as goal

pub returns-in_err-callee : goal.returns-in_err-callee
returns-in_err-callee g c =
    let p = err_from_is_err_and c.from_residual.result c.from_residual.ensures.1 in
    rw (p.1, p.2)
    (first_of_3 (g.H.Heap.may_refuse c.args.heap) c.in_err-callee.field-0.0
    (new_call c.args.place (place_of (node_of c.args.actuals.now)) (place_of (node_of c.args.conds.now))) (named_in (node_of c.args.callee.now))
    (names_in (node_of c.args.actuals.now)) (names_in (node_of c.args.conds.now)) c.in_err-callee.ensures)

pub returns-in_err-actuals : goal.returns-in_err-actuals
returns-in_err-actuals g c =
    let p = err_from_is_err_and c.from_residual-in_err-actuals.result c.from_residual-in_err-actuals.ensures.1 in
    rw (p.1, p.2, c.in_ok-callee.ensures)
    (first_of_2 (g.H.Heap.may_refuse c.args.heap) c.in_err-actuals.field-0.0
    (new_call c.args.place (place_of (node_of c.args.actuals.now)) (place_of (node_of c.args.conds.now)) c.in_ok-callee.callee)
    (names_in (node_of c.args.actuals.now))
    (names_in (node_of c.args.conds.now)) c.in_err-actuals.ensures)

pub returns-in_err-conds : goal.returns-in_err-conds
returns-in_err-conds g c =
    let p = err_from_is_err_and c.from_residual-in_err-conds.result c.from_residual-in_err-conds.ensures.1 in
    rw (p.1, p.2, c.in_ok-callee.ensures, c.in_ok-actuals.ensures)
    (first_of_value (g.H.Heap.may_refuse c.args.heap) c.in_err-conds.field-0.0
    (new_call c.args.place (place_of (node_of c.args.actuals.now)) (place_of (node_of c.args.conds.now)) c.in_ok-callee.callee
    c.in_ok-actuals.actuals.items)
    (names_in (node_of c.args.conds.now)) c.in_err-conds.ensures)

pub returns : goal.returns
returns g c = rw (c.in_ok-callee.ensures, c.in_ok-actuals.ensures, c.in_ok-conds.ensures, c.place-actuals_place.ensures, c.place-conds_place.ensures) refl
