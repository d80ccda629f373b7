use Rattle.std.proofs.Common.{◌≡◌, ap, sym, ◌∙◌}
use Rattle.gypsy_space.{specs.Nodes.{seen_statement, seen_statements}, proofs.NodeLaws.seen_statement-seq}
use Rattle.gypsy_meaning.proofs.work.+opening.Goals as goal

pub open-returns-in-Seq : goal.open-returns-in-Seq
open-returns-in-Seq g t c =
    let k : seen_statement c.args.node.now.value ≡ seen_statements c.in-Seq.parts.value.items =
    ap seen_statement (sym c.deref.ensures ∙ c.in-Seq.is) ∙ seen_statement-seq c.in-Seq.parts in
    rw k c.open_parts.ensures
