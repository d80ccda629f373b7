-- An item in range is an item of its kind, and a simple value's is in range.
use Rattle.std.proofs.Common.{◌≡◌, ℕ, zero, suc, ◌<◌, ℤ, pos, negsuc, List, [], ◌∷◌, length, get_or, Bool, true, refl, ap, sym, ◌∙◌, arith}
use Rattle.std.{specs.List.list_all, proofs.lemmas.Bool.and_parts}
use Rattle.stack_text.{specs.declared.shape.Kind.Kind, specs.declared.shape.Kind.TheVariants.{Integer, Boolean, Character}, specs.declared.shape.Shape.Shape}
use Rattle.stack_text.specs.Values.{ValueOf, is_item, item_count}
use Rattle.gypsy_syntax.{specs.Programs.simple, specs.Ranges.is_in_range, specs.ValuesFit.ValueFits, specs.Effects.item_of_value}

pub range_item : (k : Kind) (z : ℤ) → is_in_range k z ≡ true → is_item k z ≡ true
range_item Integer z e = refl
range_item Boolean (pos n) e = e
range_item Boolean (negsuc n) e = e
range_item Character (pos n) e = e
range_item Character (negsuc n) e = e

pub get_holds : (test : ℤ → Bool) (items : List ℤ) (i : ℕ) → list_all test items ≡ true → i < length items → test (get_or items i (pos 0)) ≡ true
get_holds test [] i h l = absurd (omega (arith, l))
get_holds test (z ∷ items) zero h l = (and_parts (test z) (list_all test items) h).0
get_holds test (z ∷ items) (suc i) h l = get_holds test items i (and_parts (test z) (list_all test items) h).1 (omega (arith, l))

pub simple_item : (k : Kind) (v : ValueOf) → v.shape ≡ simple k → ValueFits v → is_in_range k (item_of_value v) ≡ true
simple_item k v e f =
    let one : length v.items ≡ 1 = f.number ∙ ap item_count e in
    let all : list_all (is_in_range k) v.items ≡ true = ap (λ (s : Shape). list_all (is_in_range s.kind) v.items) (sym e) ∙ f.items in
    get_holds (is_in_range k) v.items 0 all (omega (arith, one))
