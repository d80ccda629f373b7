use Rattle.std.{proofs.Common.{◌≡◌, ◌+◌, List, [], ◌∷◌, ◌++◌, drop, map, sym, ap, subst, ◌∙◌, arith, rules}, specs.declared.alloc.Global.Global}
use Rattle.std.{specs.declared.rc.Rc.Rc, proofs.lemmas.List.Elements.All-same}
use Rattle.gypsy_syntax.{specs.declared.statement.Arg.Arg, specs.declared.statement.Stmt.{Stmt as Text, the_lemmas}, specs.Resolved.statement_of}
use Rattle.gypsy_syntax.{specs.Resolved.statement_of_all, specs.Sources.{StmtOf, predef, seq}, specs.Views.SourceView.{arg_of, parts_of_list, proc_of}}
use Rattle.gypsy_syntax.{specs.Views.SourceView.{source_of, stmt_of}, proofs.ViewLaws.stmt_of-seq}
use Rattle.gypsy_space.{specs.declared.program.Node.Node, specs.Nodes.seen_statements, specs.CallSites.sequenced, specs.Resolvable.{ConstantFits, ConstantsFit}}
use Rattle.gypsy_space.{proofs.AcceptedLaws.{each_before, parts_fit}, proofs.NodeLaws.seen_statement-seq, proofs.ResolveLaws.{all_parts, next_part}}
use Rattle.gypsy_space.proofs.resolving.+statements.Goals as goal

pub statement-statements-requires : goal.statement-statements-requires
statement-statements-requires g t c =
    let parts = c.in-Seq.parts.items in
    let k : stmt_of c.args.stmt.now ≡ seq c.in-Seq.place (parts_of_list parts) = ap stmt_of c.in-Seq.is ∙ stmt_of-seq c.in-Seq.place c.in-Seq.parts in
    let constants = subst (λ (b : StmtOf). ConstantsFit b) k c.requires.constants in
    let fit = All-same (λ (s : Text). ConstantsFit (stmt_of s)) c.as_slice.result.now parts c.as_slice.ensures.value (parts_fit parts constants) in
    λ κs lives. (search (rules, the_lemmas), (lives, (c.requires.callees, (c.requires.form, fit))))

pub statement-application-requires-clause-constants : goal.statement-application-requires-clause-constants
statement-application-requires-clause-constants g t c =
    let args = c.in-Predef.args.items in
    let k : stmt_of c.args.stmt.now ≡ predef c.in-Predef.place c.in-Predef.which (map arg_of args) = ap stmt_of c.in-Predef.is in
    let constants = subst (λ (b : StmtOf). ConstantsFit b) k c.requires.constants in
    All-same (λ (a : Arg). ConstantFits (arg_of a)) c.as_slice-in-Predef.result.now args c.as_slice-in-Predef.ensures.value
    (each_before ConstantFits arg_of args constants)

pub statement-returns-in_ok-shared-in-Seq : goal.statement-returns-in_ok-shared-in-Seq
statement-returns-in_ok-shared-in-Seq g t c =
    let s = source_of c.args.callees.now.source.now in
    let p = proc_of c.args.proc.now in
    seen_statement-seq c.in_ok-shared-in-Seq.field-0
    ∙ ap (λ v. seen_statements v.items) c.in_ok-shared-in-Seq.ensures.value
    ∙ c.in_ok-nodes-in-Seq.ensures
    ∙ ap (λ ss. statement_of_all s p (parts_of_list ss)) c.as_slice.ensures.value
    ∙ sym (ap (statement_of s p) (ap stmt_of c.in-Seq.is ∙ stmt_of-seq c.in-Seq.place c.in-Seq.parts))

pub statements-loop-part-preserved : goal.statements-loop-part-preserved
statements-loop-part-preserved g t c =
    let s = source_of c.args.callees.now.source.now in
    let p = proc_of c.args.proc.now in
    let pushed : c.push.new.items.items ≡ c.loop-part.nodes.items ++ c.in_ok-node.node ∷ [] = search rules in
    let whole = statement_of_all s p (parts_of_list c.args.parts.now) in
    subst (λ (ns : List (Rc Node Global)). sequenced ns (statement_of_all s p (parts_of_list (drop (c.loop-part.part-index + 1) c.args.parts.now)))
    ≡ whole) (sym pushed)
    (next_part s p c.loop-part.nodes.items c.args.parts.now c.loop-part.part-index whole c.loop-part.invariant c.in_ok-node.node c.part-item.result
    c.loop-part-test.true c.part-item.is c.in_ok-node.ensures)

pub statements-returns : goal.statements-returns
statements-returns g t c =
    let s = source_of c.args.callees.now.source.now in
    let p = proc_of c.args.proc.now in
    all_parts s p c.loop-part.nodes.items c.args.parts.now c.loop-part.part-index (statement_of_all s p (parts_of_list c.args.parts.now))
    c.loop-part.invariant (omega (arith, c.loop-part-test.false))
