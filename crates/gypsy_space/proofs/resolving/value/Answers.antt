use Rattle.std.proofs.Common.{◌≡◌, ℤ, List, true, true≢false, sym, subst}
use Rattle.stack_text.specs.Values.{ValueOf, is_value}
use Rattle.gypsy_syntax.{specs.Resolved.value_items, specs.Views.SourceView.literal_of}
use Rattle.gypsy_space.proofs.AcceptedLaws.{all_wider, value_is}
use Rattle.gypsy_space.proofs.resolving.value.Goals as goal

pub items-requires : goal.items-requires
items-requires g c = all_wider c.args.shape.kind (value_items (literal_of c.args.literal.now)) c.requires.items

pub unreachable-requires : goal.unreachable-requires
unreachable-requires g c =
    let v : ValueOf = record { shape = c.args.shape; items = value_items (literal_of c.args.literal.now) } in
    let P : List ℤ → Type 0 = λ items. is_value c.args.shape items ≡ true in
    true≢false (sym (c.in-None.ensures.when.1 (subst P (sym c.in_ok-items.ensures) (value_is v c.requires))))
