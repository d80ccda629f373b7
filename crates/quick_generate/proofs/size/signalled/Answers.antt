use Rattle.std.proofs.Common.{◌≡◌, ap, sym, ◌∙◌}
use Rattle.gypsy_space.{specs.Nodes.{seen_statement, seen_statements}, proofs.NodeLaws.seen_statement-seq}
use Rattle.quick_gypsy.specs.Quick.{signalled}
use Rattle.quick_generate.proofs.SizeLaws.{parts_signal}
use Rattle.quick_generate.proofs.size.signalled.Goals as goal

pub returns-in-Seq : goal.returns-in-Seq
returns-in-Seq c =
    let k : seen_statement c.args.arm.now.value ≡ seen_statements c.in-Seq.field-0.value.items =
    ap seen_statement (sym c.deref.ensures ∙ c.in-Seq.is) ∙ seen_statement-seq c.in-Seq.field-0 in
    sym (ap signalled k ∙ parts_signal c.in-Seq.field-0.value.items)
