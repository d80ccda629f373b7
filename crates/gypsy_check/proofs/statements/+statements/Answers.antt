use Rattle.std.{proofs.Common.{◌∙◌, ◌++◌, ap, sym, List}, specs.List.flat_map}
use Rattle.stack_text.{specs.declared.breach.Breach.Breach, specs.Breaches.Notes, proofs.BreachLaws.{notes_next, notes_more}}
use Rattle.gypsy_syntax.{specs.declared.statement.Stmt.Stmt, specs.Views.SourceView.{proc_of, source_of}}
use Rattle.gypsy_check.{specs.Rules.{handlers_breaches, test_breaches}, proofs.NoteLaws.{noted, statement_breaks, seq_each}}
use Rattle.gypsy_check.proofs.statements.+statements.Goals as goal

pub check_parts-loop-part-preserved : goal.check_parts-loop-part-preserved
check_parts-loop-part-preserved g t c =
    notes_next (statement_breaks (source_of c.args.callees.now.source.now) (proc_of c.args.scope.now) c.args.in_loop) c.args.parts.now
    c.loop-part.part-index c.part-item.result c.args.best.now c.loop-part.best c.check_statement.new.best
    c.loop-part-test.true c.part-item.is c.loop-part.invariant c.in_ok-check_statement.ensures

pub check_statement-returns-in_ok-check_parts-in-Seq : goal.check_statement-returns-in_ok-check_parts-in-Seq
check_statement-returns-in_ok-check_parts-in-Seq g t c =
    let s = source_of c.args.callees.now.source.now in
    let p = proc_of c.args.scope.now in
    let g : Stmt → List Breach = statement_breaks s p c.args.in_loop in
    c.in_ok-check_parts-in-Seq.ensures
    ∙ ap (λ bs. noted c.args.best.now (flat_map g bs)) c.deref.ensures.value
    ∙ ap (noted c.args.best.now) (sym (seq_each s p c.args.in_loop c.in-Seq.place c.in-Seq.parts) ∙ ap g (sym c.in-Seq.is))

pub check_statement-returns-in_ok-check_statement-in-If-2 : goal.check_statement-returns-in_ok-check_statement-in-If-2
check_statement-returns-in_ok-check_statement-in-If-2 g t c =
    let p = proc_of c.args.scope.now in
    let g : Stmt → List Breach = statement_breaks (source_of c.args.callees.now.source.now) p c.args.in_loop in
    let f0 = c.args.best.now in
    let f1 = c.check_test.new.best in
    let f2 = c.check_statement-in-If.new.best in
    let f3 = c.check_statement-in-If-2.new.best in
    let test = test_breaches p c.in-If.test in
    let yes : Notes f1 (g c.in-If.yes.value) f2 = c.in_ok-check_statement-in-If.ensures ∙ ap (λ b. noted f1 (g b)) c.deref-in-If.ensures in
    let no : Notes f2 (g c.in-If.no.value) f3 = c.in_ok-check_statement-in-If-2.ensures ∙ ap (λ b. noted f2 (g b)) c.deref-in-If-2.ensures in
    let two = notes_more f0 f1 f2 test (g c.in-If.yes.value) c.check_test.ensures yes in
    notes_more f0 f2 f3 (test ++ g c.in-If.yes.value) (g c.in-If.no.value) two no
    ∙ ap (λ b. noted f0 (g b)) (sym c.in-If.is)

pub check_statement-returns-in_ok-check_statement-in-Begin-2 : goal.check_statement-returns-in_ok-check_statement-in-Begin-2
check_statement-returns-in_ok-check_statement-in-Begin-2 g t c =
    let p = proc_of c.args.scope.now in
    let g : Stmt → List Breach = statement_breaks (source_of c.args.callees.now.source.now) p c.args.in_loop in
    let f0 = c.args.best.now in
    let f1 = c.check_statement-in-Begin.new.best in
    let f2 = c.check_handlers.new.best in
    let f3 = c.check_statement-in-Begin-2.new.best in
    let handlers = handlers_breaches p c.in-Begin.conds.items in
    let body : Notes f0 (g c.in-Begin.body.value) f1 = c.in_ok-check_statement-in-Begin.ensures ∙ ap (λ b. noted f0 (g b)) c.deref-in-Begin.ensures in
    let handled : Notes f1 handlers f2 = c.in_ok-check_handlers-in-Begin.ensures ∙ ap (λ cs. noted f1 (handlers_breaches p cs)) c.as_slice.ensures.value in
    let arm : Notes f2 (g c.in-Begin.arm.value) f3 = c.in_ok-check_statement-in-Begin-2.ensures ∙ ap (λ b. noted f2 (g b)) c.deref-in-Begin-2.ensures in
    let two = notes_more f0 f1 f2 (g c.in-Begin.body.value) handlers body handled in
    notes_more f0 f2 f3 (g c.in-Begin.body.value ++ handlers) (g c.in-Begin.arm.value) two arm
    ∙ ap (λ b. noted f0 (g b)) (sym c.in-Begin.is)
