use Rattle.std.{proofs.Common.{List, ap, sym, ◌∙◌}, proofs.Math.Seq.take-length}
use Rattle.gypsy_semantics.specs.Machine.{settle}
use Rattle.gypsy_meaning.{specs.Views.Work.{left_by, work_of}, specs.declared.work.Item.Item as Kept, proofs.OpenLaws.moved}
use Rattle.gypsy_meaning.proofs.pending.Work.settle.Goals as goal

pub returns-clause-done : goal.returns-clause-done
returns-clause-done g c =
    let items = c.as_slice-items.result.now in
    let added = c.settled.new.added.items in
    let kept = c.in_ok-kept.kept in
    moved c.self.inside.items.items c.change.new.items.items added kept c.in_ok-change.ensures.done
    ∙ ap (λ (l : List Kept). left_by l added kept) (sym c.as_slice-items.ensures.value)
    ∙ c.in_ok-kept.ensures
    ∙ ap (λ (l : List Kept). settle (work_of l)) (take-length items ∙ c.as_slice-items.ensures.value ∙ c.self.view_is)
