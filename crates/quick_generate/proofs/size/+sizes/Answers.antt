use Rattle.std.{proofs.Common.{◌≡◌, ap, sym, ◌∙◌, vec_len, arith}, proofs.lemmas.List.drop_all}
use Rattle.gypsy_space.{specs.Nodes.{seen_statement, seen_statements}, proofs.NodeLaws.seen_statement-seq}
use Rattle.quick_gypsy.specs.Quick.{size}
use Rattle.quick_generate.{specs.Views.frame_layout, proofs.SizeLaws.no_more_words}
use Rattle.quick_generate.proofs.size.+sizes.Goals as goal

pub size-returns-in-Seq : goal.size-returns-in-Seq
size-returns-in-Seq t c =
    let k : seen_statement c.args.node.now.value ≡ seen_statements c.in-Seq.parts.value.items =
    ap seen_statement (sym c.deref.ensures ∙ c.in-Seq.is) ∙ seen_statement-seq c.in-Seq.parts in
    rw k c.parts_size.ensures

pub parts_size-returns : goal.parts_size-returns
parts_size-returns t c =
    let count : vec_len c.deref.result.now ≡ vec_len c.args.parts.now.value = ap vec_len c.deref.ensures in
    no_more_words c.loop-index.words (size (frame_layout c.args.frame.now) (seen_statements c.args.parts.now.value.items))
    (rw (drop_all c.loop-index.index c.args.parts.now.value.items (omega (arith, count, c.loop-index-test.false))) at c.loop-index.invariant)
