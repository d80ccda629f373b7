use Rattle.std.proofs.Common.{◌≡◌, ◌∷◌, ◌-◌, List, ap, sym, ◌∙◌, drop, length, take, rules}
use Rattle.gypsy_space.specs.Nodes.{seen_program, seen_statements}
use Rattle.gypsy_semantics.specs.Machine.{At, Do, Item, place_of}
use Rattle.gypsy_meaning.{specs.Views.Work.{item_of, work_of}, proofs.ShownLaws.parts_place}
use Rattle.gypsy_meaning.proofs.showing.work_place.Goals as goal

pub returns-in-Some-Parts : goal.returns-in-Some-Parts
returns-in-Some-Parts c = λ x fs t.
    let k = c.in-Some-Parts in
    let ks = c.args.work.now in
    let ns = drop k._next k._parts.value.items in
    let below : List Item = work_of (take (length ks - 1) ks) in
    let is : item_of k.field-0.now ≡ Do (seen_statements ns) = search rules in
    let e : work_of ks ≡ Do (seen_statements ns) ∷ below = k.ensures.some ∙ ap (λ (i : Item). i ∷ below) is in
    parts_place ns ∙ ap (λ (w : List Item). place_of (seen_program c.args.program.now) (At c.args.procedure x w fs t)) (sym e)
