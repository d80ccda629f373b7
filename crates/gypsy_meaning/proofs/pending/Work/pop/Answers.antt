use Rattle.std.proofs.Common.{◌≡◌, ◌-◌, ℕ, List, length, take, ap, ◌∙◌}
use Rattle.gypsy_meaning.{specs.Views.Work.work_of, specs.declared.work.Item.Item as Kept, proofs.OpenLaws.popped}
use Rattle.gypsy_meaning.proofs.pending.Work.pop.Goals as goal

pub returns : goal.returns
returns c = λ i w top.
    let ks = c.self.inside.items.items in
    let below : c.below_top-below.result ≡ length ks - 1 = c.below_top-below.ensures ∙ ap (λ (l : List Kept). length l - 1) c.as_slice.ensures.value in
    ap work_of c.truncate.ensures.items ∙ ap (λ (n : ℕ). work_of (take n ks)) below ∙ popped ks i w (ap work_of c.self.view_is ∙ top)
