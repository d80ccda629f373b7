use Rattle.std.{proofs.Common.{◌≡◌, List, ap, sym, ◌∙◌}, proofs.Math.Seq.take-length}
use Rattle.gypsy_space.specs.Nodes.{seen_cond}
use Rattle.gypsy_semantics.specs.Machine.{Item, At, raise}
use Rattle.gypsy_meaning.{specs.Views.Work.{caught_spend, left_by, work_of}, specs.declared.work.Item.Item as Kept, proofs.OpenLaws.moved}
use Rattle.gypsy_meaning.proofs.pending.Work.raise.Goals as goal

pub returns-clause-done : goal.returns-clause-done
returns-clause-done g c = λ p x fs t.
    let items = c.as_slice-items.result.now in
    let added = c.raise.new.added.items in
    let kept = c.in_ok-raised.raised.kept in
    let left : work_of c.change.new.items.items ≡ left_by items added kept =
    moved c.self.inside.items.items c.change.new.items.items added kept c.in_ok-change.ensures.done
    ∙ ap (λ (l : List Kept). left_by l added kept) (sym c.as_slice-items.ensures.value) in
    ap (λ (l : List Kept). raise (seen_cond c.args.cond) p x (work_of l) fs t) (sym (take-length items ∙ c.as_slice-items.ensures.value ∙ c.self.view_is))
    ∙ c.in_ok-raised.ensures p x fs t
    ∙ ap (λ (l : List Item). At p x l fs (caught_spend c.in_ok-raised.raised.caught t)) (sym left)
