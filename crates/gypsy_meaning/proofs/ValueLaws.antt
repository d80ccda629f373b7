-- Arrays that stay values.
use Rattle.std.{proofs.Common.{◌≡◌, ℕ, ℤ, List, ◌==◌, length, slice_set, true, ap, ◌∙◌, length-set}, specs.List.list_all, proofs.lemmas.Bool.and_parts}
use Rattle.std.proofs.lemmas.Bool.{and_from}
use Rattle.stack_text.{specs.declared.shape.Shape.Shape, specs.Values.{is_item, is_value, item_count}}
use Rattle.gypsy_semantics.proofs.EffectLaws.{set_holds}

-- with another item of the kind
pub set_is_value : (s : Shape) (items : List ℤ) (i : ℕ) (z : ℤ) → is_value s items ≡ true → is_item s.kind z ≡ true → is_value s (slice_set items i z) ≡ true
set_is_value s items i z h e =
    let p = and_parts (length items == item_count s) (list_all (is_item s.kind) items) h in
    and_from (length (slice_set items i z) == item_count s) (list_all (is_item s.kind) (slice_set items i z))
    (ap (λ n. n == item_count s) (length-set items i z) ∙ p.0)
    (set_holds (is_item s.kind) items i z p.1 e)
