use Rattle.std.proofs.Common.{◌≡◌, ap, sym, ◌∙◌}
use Rattle.gypsy_space.{specs.Nodes.{seen_statement, seen_statements}, proofs.NodeLaws.seen_statement-seq}
use Rattle.space_cert.proofs.certifying.+statements.Goals as goal

pub append_callees-returns-in-Seq : goal.append_callees-returns-in-Seq
append_callees-returns-in-Seq g t c =
    let k : seen_statement c.args.node.now.value ≡ seen_statements c.in-Seq.parts.value.items =
    ap seen_statement (sym c.deref.ensures ∙ c.in-Seq.is) ∙ seen_statement-seq c.in-Seq.parts in
    rw k c.append_all.ensures
