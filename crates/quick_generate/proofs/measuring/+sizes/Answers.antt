use Rattle.std.proofs.Common.{◌≡◌, ap, sym, ◌∙◌, arith}
use Rattle.gypsy_space.{specs.Nodes.{seen_statement, seen_statements}, proofs.NodeLaws.seen_statement-seq}
use Rattle.quick_generate.proofs.measuring.+sizes.Goals as goal

pub measure-measure_parts-requires : goal.measure-measure_parts-requires
measure-measure_parts-requires t c =
    let k : seen_statement c.args.node.now.value ≡ seen_statements c.in-Seq.parts.value.items =
    ap seen_statement (sym c.deref.ensures ∙ c.in-Seq.is) ∙ seen_statement-seq c.in-Seq.parts in
    (omega (arith, c.decreases), (c.requires.table, rw k at c.requires.can))

pub measure-returns-in-Seq : goal.measure-returns-in-Seq
measure-returns-in-Seq t c =
    let k : seen_statement c.args.node.now.value ≡ seen_statements c.in-Seq.parts.value.items =
    ap seen_statement (sym c.deref.ensures ∙ c.in-Seq.is) ∙ seen_statement-seq c.in-Seq.parts in
    rw k c.measure_parts.ensures
