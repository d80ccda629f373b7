-- What values a text gives slots doesn't depend on the addresses of the slots.
use Rattle.std.proofs.Common.{◌≡◌, ℕ, ◌-◌, List, [], ◌∷◌, ◌++◌, map, Bool, true, false, cond, Option, Some, None, Result, Ok, Err, refl, ap, ◌∙◌}
use Rattle.std.{specs.Option.{option_map, option_or}, specs.Str.bytes_eq}
use Rattle.stack_text.{specs.declared.shape.Shape.Shape, specs.declared.text_fault.TextRule.TextRule, specs.Results.{◌>>=◌, unless_fault}, specs.Trees.Node}
use Rattle.stack_text.{specs.Trees.{atom, list}, specs.TreeIn.tree_in, specs.Values.{ValueOf, item_count}}
use Rattle.fm_image.specs.declared.slot.Slot.{Slot}
use Rattle.fm_loader.{specs.declared.fault.Rule.Rule, specs.declared.parsed.Entry.Entry, specs.declared.parsed.ParsedValue.ParsedValue, specs.Rules.Fault}
use Rattle.fm_loader.specs.Values.{entries_of, mismatch, slot_named, is_named, rule_broken, rule_of, fault_at, entry_fault, value_for, found_in, all_found}
use Rattle.fm_loader.specs.Values.{values_at, values_on, values_in}
use Rattle.gypsy_syntax.{specs.declared.literal.Decl.Decl, specs.Resolved.shape_of, specs.Sources.SourceOf}
use Rattle.gypsy_space.specs.Needs.{StackSizes}
use Rattle.stack_build.{specs.Formals.shown_formals, specs.Image.{slots_from, formal_slots, image_of}}

abbrev found_shape : Option Slot → Option Shape
found_shape o = option_map (λ (s : Slot). s.shape) o

-- a slot of a name has one shape, wherever the slots begin
same_shape : (name : List ℕ) (a b : ℕ) (ds : List Decl) → found_shape (slot_named name (slots_from a ds)) ≡ found_shape (slot_named name (slots_from b ds))
same_shape name a b [] = refl
same_shape name a b (d ∷ ds) = by_test (bytes_eq name d.name.name) (same_shape name (a - item_count (shape_of d.shape)) (b - item_count (shape_of d.shape)) ds)
  where
    by_test : (t : Bool) → found_shape (slot_named name (slots_from (a - item_count (shape_of d.shape)) ds))
        ≡ found_shape (slot_named name (slots_from (b - item_count (shape_of d.shape)) ds))
        → found_shape (cond t (Some record { name = d.name.name; shape = shape_of d.shape; address = a })
        (slot_named name (slots_from (a - item_count (shape_of d.shape)) ds)))
        ≡ found_shape (cond t (Some record { name = d.name.name; shape = shape_of d.shape; address = b })
        (slot_named name (slots_from (b - item_count (shape_of d.shape)) ds)))
    by_test true rest = refl
    by_test false rest = rest

-- so an entry breaks the same rule
same_rule : (o p : Option Slot) (is_repeated : Bool) (value : ParsedValue) → found_shape o ≡ found_shape p
    → rule_broken o is_repeated value ≡ rule_broken p is_repeated value
same_rule None None is_repeated value e = refl
same_rule None (Some t) is_repeated value e = absurd cc
same_rule (Some s) None is_repeated value e = absurd cc
same_rule (Some s) (Some t) true value e = refl
same_rule (Some s) (Some t) false value e = let same : s.shape ≡ t.shape = cc in ap (λ (shape : Shape). mismatch shape value) same

module _ (a b : ℕ) (ds : List Decl) where
  same_fault : (earlier entries : List Entry) → entry_fault (slots_from a ds) earlier entries ≡ entry_fault (slots_from b ds) earlier entries
  unfolding entry_fault
  same_fault earlier [] = refl
  same_fault earlier (entry ∷ entries) =
      ap (λ (r : Option Rule). option_or (option_map (fault_at entry.place) r) (entry_fault (slots_from a ds) (earlier ++ entry ∷ []) entries))
      (same_rule (slot_named entry.name (slots_from a ds)) (slot_named entry.name (slots_from b ds)) (is_named entry.name earlier) entry.value
      (same_shape entry.name a b ds))
      ∙ ap (λ (f : Option Fault). option_or (option_map (fault_at entry.place) (rule_of (slots_from b ds) earlier entry)) f)
      (same_fault (earlier ++ entry ∷ []) entries)

-- and each slot gets the same
same_found : (entries : List Entry) (a b : ℕ) (ds : List Decl) → map (value_for entries) (slots_from a ds) ≡ map (value_for entries) (slots_from b ds)
same_found entries a b [] = refl
same_found entries a b (d ∷ ds) =
    ap (λ (vs : List (Option ValueOf)). value_for entries record { name = d.name.name; shape = shape_of d.shape; address = a } ∷ vs)
    (same_found entries (a - item_count (shape_of d.shape)) (b - item_count (shape_of d.shape)) ds)

same_in : (a b : ℕ) (ds : List Decl) (entries : List Entry) → found_in (slots_from a ds) entries ≡ found_in (slots_from b ds) entries
same_in a b ds entries =
    ap (λ (f : Option Fault). unless_fault f (map (value_for entries) (slots_from a ds))) (same_fault a b ds [] entries)
    ∙ ap (λ (vs : List (Option ValueOf)). unless_fault (entry_fault (slots_from b ds) [] entries) vs) (same_found entries a b ds)

same_at : (a b : ℕ) (ds : List Decl) (tree : Node) → values_at (slots_from a ds) tree ≡ values_at (slots_from b ds) tree
unfolding values_at
same_at a b ds (atom place word) = refl
same_at a b ds (list place trees) = λ i. entries_of trees >>= λ entries. same_in a b ds entries i >>= λ found. all_found place found

same_on : (a b : ℕ) (ds : List Decl) (r : Result Node (TextRule × ℕ)) → values_on (slots_from a ds) r ≡ values_on (slots_from b ds) r
same_on a b ds (Err fault) = refl
same_on a b ds (Ok tree) = same_at a b ds tree

-- slots take the same values wherever they begin
pub same_values : (a b : ℕ) (ds : List Decl) (text : List ℕ) → values_in (slots_from a ds) text ≡ values_in (slots_from b ds) text
unfolding values_in
same_values a b ds text = same_on a b ds (tree_in text)

-- the image's slots take the values that main's formals take
pub image_takes : (source : SourceOf) (sizes : StackSizes) (base : ℕ) (text : List ℕ)
    → values_in (image_of source sizes base).slots text ≡ values_in (formal_slots source) text
unfolding image_of
image_takes source sizes base text = same_values _ 0 (shown_formals source) text
