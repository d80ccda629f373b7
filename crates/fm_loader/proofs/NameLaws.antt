-- Names of slots that all differ.
use Rattle.std.proofs.Common.{◌≡◌, Some, None, ℕ, ◌<◌, ◌≤◌, List, [], ◌∷◌, map, length, Bool, true, false, cond, refl, sym, ap, subst, ◌∙◌}
use Rattle.std.{specs.Prelude.nat_lt, specs.List.{position, position_or_len, slice_get}, proofs.lemmas.Bool.{ltb-true, ltb-false}}
use Rattle.std.{proofs.lemmas.List.Folds.find_at, specs.Str.bytes_eq, proofs.lemmas.Slice.Eq.bytes_eq-Decides, proofs.lemmas.Option.slice_get_past}
use Rattle.stack_text.{specs.Names.place_among, proofs.SharedLaws.place_among-map}
use Rattle.fm_image.specs.declared.slot.Slot.{Slot}
use Rattle.fm_loader.specs.Values.{slot_named}

-- the place of a name is the position of its slot
same_position : (name : List ℕ) (names : List (List ℕ)) (slots : List Slot) → names ≡ map (λ s. s.name) slots
    → place_among name names ≡ position (λ s. bytes_eq name s.name) slots
same_position name names slots same = ap (place_among name) same ∙ sym (place_among-map name (λ (s : Slot). s.name) slots)

pub named_same : (name : List ℕ) (slots : List Slot) (slot : Slot) → Some slot ≡ slot_named name slots → name ≡ slot.name
named_same name [] slot h = cc
named_same name (s ∷ slots) slot h = by_test (bytes_eq name s.name) refl h (named_same name slots slot)
  where
    by_test : (b : Bool) → bytes_eq name s.name ≡ b → Some slot ≡ cond b (Some s) (slot_named name slots)
        → (Some slot ≡ slot_named name slots → name ≡ slot.name) → name ≡ slot.name
    by_test true e h later = let same : slot ≡ s = cc in (bytes_eq-Decides name s.name).0 e ∙ ap (λ (s : Slot). s.name) (sym same)
    by_test false e h later = later h

-- where a name is at no position, it is no slot's
none_below : (n m : ℕ) → cond (nat_lt n m) (Some n) None ≡ None → m ≤ n
none_below n m h = by_test (nat_lt n m) refl h
  where
    by_test : (b : Bool) → nat_lt n m ≡ b → cond b (Some n) None ≡ None → m ≤ n
    by_test true e h = cc
    by_test false e h = ltb-false n m e

some_below : (n m i : ℕ) → cond (nat_lt n m) (Some n) None ≡ Some i → (n ≡ i) × (n < m)
some_below n m i h = by_test (nat_lt n m) refl h
  where
    by_test : (b : Bool) → nat_lt n m ≡ b → cond b (Some n) None ≡ Some i → (n ≡ i) × (n < m)
    by_test true e h = (cc, ltb-true n m e)
    by_test false e h = cc

pub no_slot : (name : List ℕ) (names : List (List ℕ)) (slots : List Slot) → names ≡ map (λ s. s.name) slots → None ≡ place_among name names
    → None ≡ slot_named name slots
no_slot name names slots same none =
    let past = none_below (position_or_len (λ s. bytes_eq name s.name) slots) (length slots) (sym (none ∙ same_position name names slots same)) in
    sym (find_at (λ (s : Slot). bytes_eq name s.name) slots ∙ slice_get_past slots (position_or_len (λ s. bytes_eq name s.name) slots) past)

pub the_slot : (name : List ℕ) (names : List (List ℕ)) (slots : List Slot) (index : ℕ) → names ≡ map (λ s. s.name) slots
    → Some index ≡ place_among name names → slot_named name slots ≡ slice_get slots index
the_slot name names slots index same found =
    let at = some_below (position_or_len (λ s. bytes_eq name s.name) slots) (length slots) index (sym (found ∙ same_position name names slots same)) in
    find_at (λ (s : Slot). bytes_eq name s.name) slots ∙ ap (slice_get slots) at.0

pub slot_below : (name : List ℕ) (names : List (List ℕ)) (slots : List Slot) (index : ℕ) → names ≡ map (λ s. s.name) slots
    → Some index ≡ place_among name names → index < length slots
slot_below name names slots index same found =
    let at = some_below (position_or_len (λ s. bytes_eq name s.name) slots) (length slots) index (sym (found ∙ same_position name names slots same)) in
    subst (λ (i : ℕ). i < length slots) at.0 at.1
