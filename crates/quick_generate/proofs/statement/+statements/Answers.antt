use Rattle.std.proofs.Common.{rules, ◌≡◌, ap, sym, ◌∙◌}
use Rattle.gypsy_space.{specs.Nodes.{seen_statement, seen_statements}, specs.declared.program.Node.the_lemmas, proofs.NodeLaws.seen_statement-seq}
use Rattle.quick_generate.proofs.statement.+statements.Goals as goal

pub statement-parts-requires : goal.statement-parts-requires
statement-parts-requires g t c =
    let k : seen_statement c.args.node.now.value ≡ seen_statements c.in-Seq.nodes.value.items =
    ap seen_statement (sym c.deref.ensures ∙ c.in-Seq.is) ∙ seen_statement-seq c.in-Seq.nodes in
    λ κs lives. (search (rules, the_lemmas), (lives, rw k at c.requires))

pub statement-returns-in_ok-next-in-Seq-clause-code : goal.statement-returns-in_ok-next-in-Seq-clause-code
statement-returns-in_ok-next-in-Seq-clause-code g t c =
    let k : seen_statement c.args.node.now.value ≡ seen_statements c.in-Seq.nodes.value.items =
    ap seen_statement (sym c.deref.ensures ∙ c.in-Seq.is) ∙ seen_statement-seq c.in-Seq.nodes in
    rw k c.in_ok-next-in-Seq.ensures.code

pub statement-returns-in_ok-next-in-Seq-clause-next : goal.statement-returns-in_ok-next-in-Seq-clause-next
statement-returns-in_ok-next-in-Seq-clause-next g t c =
    let k : seen_statement c.args.node.now.value ≡ seen_statements c.in-Seq.nodes.value.items =
    ap seen_statement (sym c.deref.ensures ∙ c.in-Seq.is) ∙ seen_statement-seq c.in-Seq.nodes in
    rw k c.in_ok-next-in-Seq.ensures.next
