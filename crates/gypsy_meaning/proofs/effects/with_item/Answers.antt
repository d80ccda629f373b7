use Rattle.std.proofs.Common.{rules, ◌≡◌, ℤ, List, slice_set, true, true≢false, sym, subst, ap, ◌∙◌}
use Rattle.stack_text.specs.Values.{is_item, is_value}
use Rattle.gypsy_meaning.proofs.ValueLaws.{set_is_value}
use Rattle.gypsy_meaning.proofs.effects.with_item.Goals as goal

pub unreachable-requires : goal.unreachable-requires
unreachable-requires g c =
    let shape = c.array.inside.shape in
    let wrote : c.set_item.new.items.items ≡ slice_set c.in_ok-items.items.items c.args.place c.args.item = search rules in
    let set : c.set_item.new.items.items ≡ slice_set c.array.inside.items.items c.args.place c.args.item =
    wrote ∙ ap (λ (items : List ℤ). slice_set items c.args.place c.args.item) (c.in_ok-items.ensures.items ∙ c.as_slice.ensures.value) in
    let kind_is : is_item shape.kind c.args.item ≡ true = ap (λ v. is_item v.shape.kind c.args.item) c.array.view_is ∙ c.requires.item in
    let P : List ℤ → Type 0 = λ items. is_value shape items ≡ true in
    true≢false (sym (c.in-None.ensures.when.1
    (subst P (sym set) (set_is_value shape c.array.inside.items.items c.args.place c.args.item c.array.invariant kind_is))))
