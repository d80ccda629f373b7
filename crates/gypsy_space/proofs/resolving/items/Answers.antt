use Rattle.std.{proofs.Common.{◌≡◌, true, ap, subst, ◌∙◌}, specs.List.list_all, proofs.lemmas.List.Elements.All-same}
use Rattle.stack_text.specs.declared.shape.Kind.TheVariants.{Integer}
use Rattle.gypsy_syntax.{specs.Ranges.is_in_range, specs.Resolved.{items_of_all, value_items}, specs.Sources.{LiteralOf, array}}
use Rattle.gypsy_syntax.{specs.Views.SourceView.{items_of_list, literal_of}, proofs.ViewLaws.literal_of-list}
use Rattle.gypsy_space.proofs.AcceptedLaws.{InRange, items_in}
use Rattle.gypsy_space.proofs.resolving.items.Goals as goal

pub list_items-requires : goal.list_items-requires
list_items-requires g c =
    let items = c.in-List.items.items in
    let k : literal_of c.args.literal.now ≡ array c.in-List.place (items_of_list items) =
    ap literal_of c.in-List.is ∙ literal_of-list c.in-List.place c.in-List.items in
    let range : list_all (is_in_range Integer) (items_of_all (items_of_list items)) ≡ true =
    subst (λ (l : LiteralOf). list_all (is_in_range Integer) (value_items l) ≡ true) k c.requires in
    All-same InRange c.deref.result.now items c.deref.ensures.value (items_in items range)

pub returns-in-List : goal.returns-in-List
returns-in-List g c =
    let k : literal_of c.args.literal.now ≡ array c.in-List.place (items_of_list c.in-List.items.items) =
    ap literal_of c.in-List.is ∙ literal_of-list c.in-List.place c.in-List.items in
    rw k (rw c.deref.ensures.value at c.list_items.ensures)
