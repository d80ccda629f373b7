use Rattle.std.proofs.Common.{rules, ◌≡◌, ◌++◌, List, map, ap, sym, subst, ◌∙◌}
use Rattle.gypsy_syntax.{specs.Sources.StmtOf, specs.Views.SourceView.stmt_of}
use Rattle.mini_syntax.{specs.declared.program.Statement.{Statement, the_lemmas}, specs.Language.{Stmt, While, If}, specs.ProgramView.{block_in, exp_of}}
use Rattle.mini_syntax.{specs.ProgramView.statement_in, specs.Sorted.AreFine, proofs.ViewLaws.{statement_in-if, statement_in-while}}
use Rattle.mini_gypsy.{specs.Lowered.statement_parts, proofs.ListLaws.{fine_next, statements_done, statements_more}, proofs.PartLaws.{block_is, if_is}}
use Rattle.mini_gypsy.proofs.PartLaws.{while_is}
use Rattle.mini_gypsy.proofs.statements.+statements.Goals as goal

pub append_statement-append_statements-requires : goal.append_statement-append_statements-requires
append_statement-append_statements-requires g t c =
    let sorts = map (λ d. d.sort) c.args.declared.now in
    let k : statement_in c.args.statement.now ≡ While (exp_of c.in-While.test) (block_in c.in-While.body.items) =
    ap statement_in c.in-While.is ∙ statement_in-while c.in-While.test c.in-While.body in
    let fine = subst (λ (s : Stmt). AreFine sorts s) k c.requires in
    let body = subst (λ (ss : List Statement). AreFine sorts (block_in ss)) (sym c.as_slice.ensures.value) fine.1 in
    λ κs lives. (search (rules, the_lemmas), (lives, body))

pub append_statement-append_while-requires : goal.append_statement-append_while-requires
append_statement-append_while-requires g t c =
    let sorts = map (λ d. d.sort) c.args.declared.now in
    let k : statement_in c.args.statement.now ≡ While (exp_of c.in-While.test) (block_in c.in-While.body.items) =
    ap statement_in c.in-While.is ∙ statement_in-while c.in-While.test c.in-While.body in
    (subst (λ (s : Stmt). AreFine sorts s) k c.requires).0

pub append_statement-append_if-requires : goal.append_statement-append_if-requires
append_statement-append_if-requires g t c =
    let sorts = map (λ d. d.sort) c.args.declared.now in
    let k : statement_in c.args.statement.now ≡ If (exp_of c.in-If.test) (block_in c.in-If.then.items) (block_in c.in-If.otherwise.items) =
    ap statement_in c.in-If.is ∙ statement_in-if c.in-If.test c.in-If.then c.in-If.otherwise in
    (subst (λ (s : Stmt). AreFine sorts s) k c.requires).0

pub append_statement-append_statements-requires-in-If : goal.append_statement-append_statements-requires-in-If
append_statement-append_statements-requires-in-If g t c =
    let sorts = map (λ d. d.sort) c.args.declared.now in
    let k : statement_in c.args.statement.now ≡ If (exp_of c.in-If.test) (block_in c.in-If.then.items) (block_in c.in-If.otherwise.items) =
    ap statement_in c.in-If.is ∙ statement_in-if c.in-If.test c.in-If.then c.in-If.otherwise in
    let fine = subst (λ (s : Stmt). AreFine sorts s) k c.requires in
    let body = subst (λ (ss : List Statement). AreFine sorts (block_in ss)) (sym c.as_slice-in-If.ensures.value) fine.1 in
    λ κs lives. (search (rules, the_lemmas), (lives, body))

pub append_statement-append_statements-requires-in-If-2 : goal.append_statement-append_statements-requires-in-If-2
append_statement-append_statements-requires-in-If-2 g t c =
    let sorts = map (λ d. d.sort) c.args.declared.now in
    let k : statement_in c.args.statement.now ≡ If (exp_of c.in-If.test) (block_in c.in-If.then.items) (block_in c.in-If.otherwise.items) =
    ap statement_in c.in-If.is ∙ statement_in-if c.in-If.test c.in-If.then c.in-If.otherwise in
    let fine = subst (λ (s : Stmt). AreFine sorts s) k c.requires in
    let body = subst (λ (ss : List Statement). AreFine sorts (block_in ss)) (sym c.as_slice-in-If-2.ensures.value) fine.2 in
    λ κs lives. (search (rules, the_lemmas), (lives, body))

pub append_statement-returns-in_ok-append_while-in-While : goal.append_statement-returns-in_ok-append_while-in-While
append_statement-returns-in_ok-append_while-in-While g t c =
    let names = map (λ d. d.name) c.args.declared.now in
    let made : List Statement → List StmtOf = λ ss. statement_parts names (block_in ss) in
    let k : statement_in c.args.statement.now ≡ While (exp_of c.in-While.test) (block_in c.in-While.body.items) =
    ap statement_in c.in-While.is ∙ statement_in-while c.in-While.test c.in-While.body in
    while_is names (exp_of c.in-While.test) (block_in c.in-While.body.items) (statement_in c.args.statement.now) (map stmt_of c.args.parts.now.items)
    (map stmt_of c.append_while.new.parts.items)
    (stmt_of c.sequence.result) c.in_ok-append_while-in-While.ensures
    (block_is c.sequence.result c.in_ok-inner-in-While.inner.items c.append_statements.new.parts.items (made c.as_slice.result.now) (made c.in-While.body.items)
    c.sequence.ensures c.in_ok-append_statements-in-While.ensures c.in_ok-inner-in-While.ensures (ap made c.as_slice.ensures.value))
    k

pub append_statement-returns-in_ok-append_if-in-If : goal.append_statement-returns-in_ok-append_if-in-If
append_statement-returns-in_ok-append_if-in-If g t c =
    let names = map (λ d. d.name) c.args.declared.now in
    let made : List Statement → List StmtOf = λ ss. statement_parts names (block_in ss) in
    let k : statement_in c.args.statement.now ≡ If (exp_of c.in-If.test) (block_in c.in-If.then.items) (block_in c.in-If.otherwise.items) =
    ap statement_in c.in-If.is ∙ statement_in-if c.in-If.test c.in-If.then c.in-If.otherwise in
    if_is names (exp_of c.in-If.test) (block_in c.in-If.then.items) (block_in c.in-If.otherwise.items) (statement_in c.args.statement.now)
    (map stmt_of c.args.parts.now.items) (map stmt_of c.append_if.new.parts.items)
    (stmt_of c.sequence-in-If.result) (stmt_of c.sequence-in-If-2.result) c.in_ok-append_if-in-If.ensures
    (block_is c.sequence-in-If.result c.in_ok-first-in-If.first.items c.append_statements-in-If.new.parts.items (made c.as_slice-in-If.result.now)
    (made c.in-If.then.items)
    c.sequence-in-If.ensures c.in_ok-append_statements-in-If.ensures c.in_ok-first-in-If.ensures (ap made c.as_slice-in-If.ensures.value))
    (block_is c.sequence-in-If-2.result c.in_ok-second-in-If.second.items c.append_statements-in-If-2.new.parts.items
    (made c.as_slice-in-If-2.result.now) (made c.in-If.otherwise.items)
    c.sequence-in-If-2.ensures c.in_ok-append_statements-in-If-2.ensures c.in_ok-second-in-If.ensures (ap made c.as_slice-in-If-2.ensures.value))
    k

pub append_statements-append_statement-requires : goal.append_statements-append_statement-requires
append_statements-append_statement-requires g t c =
    let sorts = map (λ d. d.sort) c.args.declared.now in
    let fine = fine_next sorts c.args.statements.now c.loop-statement.statement-index c.statement-item.result
    c.loop-statement-test.true c.statement-item.is c.loop-statement.invariant.fine in
    λ κs lives. (search (rules, the_lemmas), (lives, fine.0))

pub append_statements-loop-statement-preserved : goal.append_statements-loop-statement-preserved
append_statements-loop-statement-preserved g t c =
    let sorts = map (λ d. d.sort) c.args.declared.now in
    let names = map (λ d. d.name) c.args.declared.now in record {
      fine = (fine_next sorts c.args.statements.now c.loop-statement.statement-index c.statement-item.result c.loop-statement-test.true
          c.statement-item.is c.loop-statement.invariant.fine).1;
      parts =
          statements_more names c.args.statements.now c.loop-statement.statement-index c.statement-item.result
          (map stmt_of c.loop-statement.parts.items) (map stmt_of c.append_statement.new.parts.items)
          (map stmt_of c.args.parts.now.items ++ statement_parts names (block_in c.args.statements.now))
          c.loop-statement-test.true c.statement-item.is c.in_ok-append_statement.ensures c.loop-statement.invariant.parts;
    }

pub append_statements-returns : goal.append_statements-returns
append_statements-returns g t c =
    let names = map (λ d. d.name) c.args.declared.now in
    statements_done names c.args.statements.now c.loop-statement.statement-index (map stmt_of c.loop-statement.parts.items)
    (map stmt_of c.args.parts.now.items ++ statement_parts names (block_in c.args.statements.now)) c.loop-statement-test.false c.loop-statement.invariant.parts
