use Rattle.std.proofs.Common.{ap, sym, ◌∙◌}
use Rattle.gypsy_space.{specs.Nodes.seen_statement, proofs.NodeLaws.seen_statement-seq}
use Rattle.gypsy_semantics.specs.Machine.{statement_place}
use Rattle.gypsy_meaning.proofs.ShownLaws.{parts_place}
use Rattle.gypsy_meaning.proofs.showing.statement_place.Goals as goal

pub returns-in-Seq : goal.returns-in-Seq
returns-in-Seq c =
    parts_place c.in-Seq.field-0.value.items
    ∙ ap statement_place (sym (seen_statement-seq c.in-Seq.field-0))
    ∙ ap (λ n. statement_place (seen_statement n)) (sym c.in-Seq.is ∙ c.deref.ensures)
