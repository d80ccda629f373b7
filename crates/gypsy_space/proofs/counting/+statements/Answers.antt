use Rattle.std.{proofs.Common.{◌≡◌, ap, sym, ◌∙◌, vec_len, arith}, proofs.lemmas.List.drop_all}
use Rattle.gypsy_space.{specs.Nodes.{seen_program, seen_statement, seen_statements}, proofs.NodeLaws.seen_statement-seq, proofs.CappedLaws.no_more}
use Rattle.gypsy_space.proofs.counting.+statements.Goals as goal

pub statement_need-returns-in-Seq : goal.statement_need-returns-in-Seq
statement_need-returns-in-Seq t c =
    let k : seen_statement c.args.node.now.value ≡ seen_statements c.in-Seq.parts.value.items =
    ap seen_statement (sym c.deref.ensures ∙ c.in-Seq.is) ∙ seen_statement-seq c.in-Seq.parts in
    rw k c.parts_need.ensures

pub parts_need-returns : goal.parts_need-returns
parts_need-returns t c =
    let count : vec_len c.deref.result.now ≡ vec_len c.args.parts.now.value = ap vec_len c.deref.ensures in
    no_more (seen_program c.args.program.now) c.loop-index.need (seen_statements c.args.parts.now.value.items)
    (rw (drop_all c.loop-index.index c.args.parts.now.value.items (omega (arith, count, c.loop-index-test.false))) at c.loop-index.invariant)
