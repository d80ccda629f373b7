use Rattle.std.proofs.Common.{◌≡◌, ℕ, List, take, ap, sym, ◌∙◌}
use Rattle.gypsy_space.specs.Nodes.{seen_cond}
use Rattle.gypsy_semantics.specs.Machine.{Item, At, raise}
use Rattle.gypsy_meaning.{specs.Views.Work.{caught_spend, left_by, work_of}, specs.declared.work.Item.Item as Kept, proofs.OpenLaws.{moved, popped}}
use Rattle.gypsy_meaning.proofs.pending.Work.raise_below.Goals as goal

pub returns-clause-done : goal.returns-clause-done
returns-clause-done g c = λ i w top p x fs t.
    let items = c.as_slice-items.result.now in
    let added = c.raise.new.added.items in
    let kept = c.in_ok-raised.raised.kept in
    let left : work_of c.change.new.items.items ≡ left_by items added kept =
    moved c.self.inside.items.items c.change.new.items.items added kept c.in_ok-change.ensures.done
    ∙ ap (λ (l : List Kept). left_by l added kept) (sym c.as_slice-items.ensures.value) in
    let below : work_of (take c.below_top.result items) ≡ w =
    ap (λ (n : ℕ). work_of (take n items)) c.below_top.ensures ∙ popped items i w (ap work_of (c.as_slice-items.ensures.value ∙ c.self.view_is) ∙ top) in
    ap (λ (l : List Item). raise (seen_cond c.args.cond) p x l fs t) (sym below)
    ∙ c.in_ok-raised.ensures p x fs t
    ∙ ap (λ (l : List Item). At p x l fs (caught_spend c.in_ok-raised.raised.caught t)) (sym left)
