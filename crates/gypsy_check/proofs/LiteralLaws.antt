-- Kinds, types and values.
use Rattle.std.proofs.Common.{◌≡◌, ℕ, ◌<◌, ◌≤◌, ℤ, pos, negsuc, List, [], ◌∷◌, map, length, if◌then◌else◌, nat_lt, nat_le, ◌==◌, Bool, true, false, not, ◌&&◌}
use Rattle.std.{proofs.Common.{Option, Some, None, refl, ap, sym, ◌∙◌, arith, ltb-true, leb-true, ne_eqb, flat_map}, specs.List.list_all}
use Rattle.std.{proofs.lemmas.Bool.{and_parts, and_from}, proofs.lemmas.Bool.Decides.Decides-int_eq}
use Rattle.stack_text.{specs.declared.shape.Kind.Kind, specs.declared.shape.Kind.TheVariants.{Integer, Boolean, Character}, specs.declared.shape.Shape.Shape}
use Rattle.stack_text.{specs.Values.{item_count, same_kind}, specs.Breaches.when, proofs.SharedLaws.{rule_holds, append_none, kind_same}}
use Rattle.gypsy_syntax.{specs.declared.literal.TypeText.TypeText, specs.Sources.{LiteralOf, LiteralsOf, integer, truth, character, array, no_items, item}}
use Rattle.gypsy_syntax.{specs.Sources.{literal_place, LocalOf}, specs.Resolved.{length_of, shape_of, item_of, items_of_all, value_items, literal_kind}}
use Rattle.gypsy_syntax.{specs.Resolved.local_value, specs.Programs.{simple, words_of}, specs.Ranges.is_in_range, specs.ValuesFit.ValueFits}
use Rattle.gypsy_syntax.specs.Effects.{same_int}
use Rattle.gypsy_check.specs.Types.{same_length, same_type, has_length, is_of_kind, are_of_kind, item_number, suits, words_of_length, words_of_types}
use Rattle.gypsy_check.specs.Rules.{literal_breaches, items_breaches, type_breaches, local_breaches}

pub kind_self : (k : Kind) → same_kind k k ≡ true
kind_self Integer = refl
kind_self Boolean = refl
kind_self Character = refl

pub int_same : (m n : ℤ) → same_int m n ≡ true → m ≡ n
int_same m n e = (Decides-int_eq m n).0 e

pos_same : (m n : ℕ) → pos m ≡ pos n → m ≡ n
pos_same m n e = cc

length_same : (m n : Option ℤ) → same_length m n ≡ true → m ≡ n
length_same None None e = refl
length_same None (Some n) e = cc
length_same (Some m) None e = cc
length_same (Some m) (Some n) e = ap Some (int_same m n e)

abbrev shape_with : Kind → Option ℤ → Shape
shape_with k n = record { kind = k; length = length_of n }

pub type_same : (t u : TypeText) → same_type t u ≡ true → shape_of t ≡ shape_of u
type_same t u e =
    let k = and_parts (same_kind t.kind u.kind) (same_length t.length u.length) e in
    ap (λ j. shape_with j t.length) (kind_same t.kind u.kind k.0) ∙ ap (shape_with u.kind) (length_same t.length u.length k.1)

-- one item of the kind
pub item_fits : (k : Kind) (l : LiteralOf) → is_of_kind k (literal_kind l) ≡ true → literal_breaches l ≡ [] → is_in_range k (item_of l) ≡ true
item_fits Integer (integer place z) e h = rule_holds (is_in_range Integer z) place 9 h
item_fits Boolean (integer place z) e h = cc
item_fits Character (integer place z) e h = cc
item_fits Integer (truth place b) e h = cc
item_fits Boolean (truth place true) e h = refl
item_fits Boolean (truth place false) e h = refl
item_fits Character (truth place b) e h = cc
item_fits Integer (character place z) e h = cc
item_fits Boolean (character place z) e h = cc
item_fits Character (character place z) e h = rule_holds (is_in_range Character z) place 9 h
item_fits k (array place ls) e h = cc

items_fit : (k : Kind) (ls : LiteralsOf) → are_of_kind k ls ≡ true → items_breaches ls ≡ [] → list_all (is_in_range k) (items_of_all ls) ≡ true
items_fit k no_items e h = refl
items_fit k (item l ls) e h =
    let a = and_parts (is_of_kind k (literal_kind l)) (are_of_kind k ls) e in
    let b = append_none (literal_breaches l) (items_breaches ls) h in
    and_from (is_in_range k (item_of l)) (list_all (is_in_range k) (items_of_all ls)) (item_fits k l a.0 b.0) (items_fit k ls a.1 b.1)

items_number : (ls : LiteralsOf) → length (items_of_all ls) ≡ item_number ls
items_number no_items = refl
items_number (item l ls) = omega (arith, items_number ls)

one_item : (k : Kind) (l : LiteralOf) → is_of_kind k (literal_kind l) ≡ true → value_items l ≡ item_of l ∷ []
one_item k (integer place z) e = refl
one_item k (truth place b) e = refl
one_item k (character place z) e = refl
one_item k (array place ls) e = cc

alone : (k : Kind) (z : ℤ) → is_in_range k z ≡ true → list_all (is_in_range k) (z ∷ []) ≡ true
alone k z e = and_from (is_in_range k z) true e refl

-- a literal of a simple kind
pub literal_fits : (k : Kind) (l : LiteralOf) → is_of_kind k (literal_kind l) ≡ true → literal_breaches l ≡ []
    → ValueFits record { shape = simple k; items = value_items l }
literal_fits k l e h = record {
  few = omega arith;
  number = ap length (one_item k l e);
  items = ap (list_all (is_in_range k)) (one_item k l e) ∙ alone k (item_of l) (item_fits k l e h);
}

pub array_length : (n : ℕ) → has_length (Some (pos n)) ≡ true → (0 < n) × (n ≤ 4096)
array_length n e = let k = and_parts (nat_lt 0 n) (nat_le n 4096) e in (ltb-true 0 n k.0, leb-true n 4096 k.1)

count_of : (n : ℕ) → 0 < n → (if n == 0 then 1 else n) ≡ n
count_of n h = rw (ne_eqb n 0 (λ e. omega arith)) refl

value_fits : (k : Kind) (n : Option ℤ) (l : LiteralOf) → has_length n ≡ true → suits k n l ≡ true → literal_breaches l ≡ []
    → ValueFits record { shape = shape_with k n; items = value_items l }
value_fits k None l g e h = literal_fits k l e h
value_fits k (Some (negsuc n)) l g e h = cc
value_fits k (Some (pos n)) (integer place z) g e h = cc
value_fits k (Some (pos n)) (truth place b) g e h = cc
value_fits k (Some (pos n)) (character place z) g e h = cc
value_fits k (Some (pos n)) (array place ls) g e h =
    let a = and_parts (same_int (pos n) (pos (item_number ls))) (are_of_kind k ls) e in
    let r = array_length n g in
    let same : n ≡ item_number ls = pos_same n (item_number ls) (int_same (pos n) (pos (item_number ls)) a.0) in
    record {
      few = r.1;
      number = items_number ls ∙ sym same ∙ sym (count_of n r.0);
      items = items_fit k ls a.1 h;
    }

pub local_fits : (l : LocalOf) → has_length l.decl.shape.length ≡ true → local_breaches l ≡ [] → ValueFits (local_value l)
local_fits l g e =
    let t = l.decl.shape in
    let k = append_none (when (not (suits t.kind t.length l.value)) (literal_place l.value) 8) (literal_breaches l.value) e in
    value_fits t.kind t.length l.value g (rule_holds (suits t.kind t.length l.value) (literal_place l.value) 8 k.0) k.1

-- Words.

word_count : (k : Kind) (n : Option ℤ) → has_length n ≡ true → item_count (shape_with k n) ≡ words_of_length n
word_count k None e = refl
word_count k (Some (pos n)) e =
    let r = array_length n e in
    count_of n r.0 ∙ sym (if_true (nat_lt 0 n && nat_le n 4096) n 0 e)
  where
    if_true : (b : Bool) (m j : ℕ) → b ≡ true → (if b then m else j) ≡ m
    if_true true m j h = refl
    if_true false m j h = cc
word_count k (Some (negsuc n)) e = cc

pub words_are : (types : List TypeText) → flat_map type_breaches types ≡ [] → words_of (map shape_of types) ≡ words_of_types types
words_are [] e = refl
words_are (t ∷ ts) e =
    let k = append_none (type_breaches t) (flat_map type_breaches ts) e in
    let a : item_count (shape_of t) ≡ words_of_length t.length = word_count t.kind t.length (rule_holds (has_length t.length) t.place 7 k.0) in
    let b : words_of (map shape_of ts) ≡ words_of_types ts = words_are ts k.1 in
    omega (arith, a, b)

pub few_lengths : (n : Option ℤ) → has_length n ≡ true → length_of n ≤ 4096
few_lengths None e = omega arith
few_lengths (Some (pos n)) e = (array_length n e).1
few_lengths (Some (negsuc n)) e = cc
