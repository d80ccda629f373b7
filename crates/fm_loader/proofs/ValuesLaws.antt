-- What the values that a text gives the slots keep.
use Rattle.std.proofs.Common.{◌≡◌, Vec, Global, IfOk, ℕ, ℤ, zero, suc, pos, ◌<◌, List, [], ◌∷◌, ◌++◌, map, length, Bool, true, false, cond, ◌&&◌, eqb, Option}
use Rattle.std.{proofs.Common.{Some, None, Result, Ok, Err, option_map, refl, sym, ap, subst, ◌∙◌, arith}, specs.Prelude.{unwrap_or, codes}}
use Rattle.std.{specs.Option.{option_or, ok_or}, specs.List.{list_all, slice_get}, specs.Str.bytes_eq, proofs.lemmas.Bool.{and_parts, and_from}}
use Rattle.std.{proofs.lemmas.List.length-map, proofs.lemmas.Map.Keys.{IsDistinct-tail, apart_from_distinct}, proofs.lemmas.Slice.Eq.bytes_eq-Decides}
use Rattle.std.proofs.lemmas.Option.{slice_get_within}
use Rattle.stack_text.{specs.declared.text_fault.TextRule.TextRule, specs.declared.shape.Kind.TheVariants.{Integer, Boolean, Character}}
use Rattle.stack_text.{specs.declared.shape.Shape.Shape, specs.Trees.{Node, Nodes, atom, list, none, more, place_of}, specs.TreeIn.tree_in}
use Rattle.stack_text.{specs.Numerals.{is_digits, is_numeral, numeral_value}, specs.Values.{ValueOf, is_value}, specs.TreeNames.name_of_tree}
use Rattle.stack_text.{specs.Results.{◌>>=◌, unless_fault}, proofs.ResultLaws.bind_ok, proofs.OptionLaws.bind_some, proofs.SharedLaws.bytes_apart}
use Rattle.fm_image.specs.declared.slot.Slot.{Slot}
use Rattle.fm_loader.{specs.declared.parsed.Scalar.Scalar, specs.declared.parsed.ParsedValue.ParsedValue, specs.declared.parsed.ParsedValue.TheVariants.Single}
use Rattle.fm_loader.{specs.declared.parsed.ParsedValue.TheVariants.Several, specs.declared.parsed.Entry.Entry, specs.declared.fault.Rule.Rule}
use Rattle.fm_loader.{specs.declared.fault.ValuesFault.ValuesFault, specs.Parsed.{character_of, scalar_of, scalar_at, scalars_of, parsed_value, pair_of}}
use Rattle.fm_loader.{specs.Parsed.entry_of, specs.Values.{entry_at, entries_of, mismatch, rule_broken, slot_named, is_named, rule_of, fault_at, entry_fault}}
use Rattle.fm_loader.specs.Values.{number_of, numbers_of, numbers_for, value_with, value_for, found_in, all_found, values_at, values_on, values_in}
use Rattle.fm_loader.{specs.Values.HaveOwnNames, specs.Rules.{rule_number, Fault, GivesValuesUnless}, specs.Loaded.Fits, proofs.FoundLaws.at_slot}
use Rattle.fm_loader.proofs.FitLaws.{fits_is_value}
use Rattle.fm_loader.specs.declared.fault.Rule.TheVariants as rules
use Rattle.stack_text.specs.Options as options
use Rattle.fm_words.specs.Word.{is_int, signed_32}

-- ---- a reading that came to values came to its entries, and each slot has its value

pub all_there : (place : ℕ) (found : List (Option ValueOf)) (values : List ValueOf) → all_found place found ≡ Ok values → found ≡ map Some values
unfolding all_found
all_there place [] values h = let none : [] ≡ values = cc in ap (map Some) none
all_there place (None ∷ found) values h = cc
all_there place (Some v ∷ found) values h =
    let p = bind_ok (all_found place found) (λ others. Ok (v ∷ others)) values h in
    let whole : v ∷ p.0 ≡ values = cc (p.2) in
    ap (λ (vs : List (Option ValueOf)). Some v ∷ vs) (all_there place found p.0 p.1) ∙ ap (map Some) whole

nothing_wrong : {A : Type 0} (fault : Option Fault) (x y : A) → unless_fault fault x ≡ Ok y → (fault ≡ None) × (x ≡ y)
nothing_wrong None x y h = (refl, cc)
nothing_wrong (Some fault) x y h = cc

-- the entries of the text, none of which breaks a rule, and the values from them
pub record Given (slots : List Slot) (trees : Nodes) (values : List ValueOf) : Type 0 where
  pub entries : List Entry
  pub read : entries_of trees ≡ Ok entries
  pub right : entry_fault slots [] entries ≡ None
  pub values_are : map (value_for entries) slots ≡ map Some values

pub given_at : (slots : List Slot) (place : ℕ) (trees : Nodes) (values : List ValueOf) → values_at slots (list place trees) ≡ Ok values
    → Given slots trees values
unfolding values_at
given_at slots place trees values h =
    let p = bind_ok (entries_of trees) (λ entries. found_in slots entries >>= λ found. all_found place found) values h in
    let q = bind_ok (found_in slots p.0) (λ found. all_found place found) values p.2 in
    let r = nothing_wrong (entry_fault slots [] p.0) (map (value_for p.0) slots) q.0 q.1 in
    record { entries = p.0; read = p.1; right = r.0; values_are = r.1 ∙ all_there place q.0 values q.2 }

no_atom : (slots : List Slot) (place : ℕ) (word : List ℕ) (values : List ValueOf) → values_at slots (atom place word) ≡ Ok values → ⊥
unfolding values_at
no_atom slots place word values h = cc

pub given_on : (slots : List Slot) (r : Result Node (TextRule × ℕ)) (values : List ValueOf) → values_on slots r ≡ Ok values → (trees : Nodes)
    × Given slots trees values
given_on slots (Err fault) values h = cc
given_on slots (Ok (atom place word)) values h = absurd (no_atom slots place word values h)
given_on slots (Ok (list place trees)) values h = (trees, given_at slots place trees values h)

pub given_in : (slots : List Slot) (text : List ℕ) (values : List ValueOf) → values_in slots text ≡ Ok values → (trees : Nodes) × Given slots trees values
unfolding values_in
given_in slots text values h = given_on slots (tree_in text) values h

-- ---- each value has the shape of its slot

shape_for : (shape : Shape) (numbers : Option (List ℤ)) (value : ValueOf) → option_map (value_with shape) numbers ≡ Some value → value.shape ≡ shape
shape_for shape None value h = cc
shape_for shape (Some numbers) value h = let k : value_with shape numbers ≡ value = cc in ap (λ (v : ValueOf). v.shape) (sym k)

shapes_are : (entries : List Entry) (slots : List Slot) (values : List ValueOf) → map (value_for entries) slots ≡ map Some values → Fits slots values
shapes_are entries [] [] h = refl
shapes_are entries [] (value ∷ values) h = cc
shapes_are entries (slot ∷ slots) [] h = cc
shapes_are entries (slot ∷ slots) (value ∷ values) h =
    let first : value_for entries slot ≡ Some value = cc in
    let rest : map (value_for entries) slots ≡ map Some values = cc in
    rw (shape_for slot.shape (numbers_for slot.name entries) value first) (ap (λ (ss : List Shape). slot.shape ∷ ss) (shapes_are entries slots values rest))

pub values_fit : (slots : List Slot) (text : List ℕ) (values : List ValueOf) → values_in slots text ≡ Ok values → Fits slots values
values_fit slots text values h = let g = (given_in slots text values h).1 in shapes_are g.entries slots values g.values_are

pub values_fit_at : (slots : List Slot) (tree : Node) (values : List ValueOf) → values_at slots tree ≡ Ok values → Fits slots values
values_fit_at slots tree values h = let g = (given_on slots (Ok tree) values h).1 in shapes_are g.entries slots values g.values_are

-- the same of what a call gave
pub fits_if_ok : (memory : Type 0) (slots : List Slot) (tree : Node) (r : Result (Vec ValueOf Global) ValuesFault)
    → GivesValuesUnless memory (λ values. values.items) r (values_at slots tree) → IfOk r (λ values. Fits slots values.items)
fits_if_ok memory slots tree (Ok values) h = values_fit_at slots tree values.items h
fits_if_ok memory slots tree (Err fault) h = tt

-- ---- each value is one of its shape

-- the slot that an entry is judged by, and that its value fits
judged_by : (o : Option Slot) (b : Bool) (value : ParsedValue) → rule_broken o b value ≡ None → (slot : Slot) × (o ≡ Some slot)
    × (mismatch slot.shape value ≡ None)
judged_by None b value h = cc
judged_by (Some slot) true value h = cc
judged_by (Some slot) false value h = (slot, refl, h)

both_none : (first second : Option Fault) → option_or first second ≡ None → (first ≡ None) × (second ≡ None)
both_none None second h = (refl, h)
both_none (Some fault) second h = cc

no_rule : (o : Option Rule) (place : ℕ) → option_map (fault_at place) o ≡ None → o ≡ None
no_rule None place h = refl
no_rule (Some rule) place h = cc

-- the entry of a name, where no entry breaks a rule
pub record Fitting (slots : List Slot) (name : List ℕ) (numbers : List ℤ) : Type 0 where
  pub slot : Slot
  pub value : ParsedValue
  pub named : slot_named name slots ≡ Some slot
  pub fits : mismatch slot.shape value ≡ None
  pub numbers_are : numbers_of value ≡ numbers

pub entry_fits : (slots : List Slot) (earlier entries : List Entry) (name : List ℕ) (numbers : List ℤ) → entry_fault slots earlier entries ≡ None
    → numbers_for name entries ≡ Some numbers → Fitting slots name numbers
unfolding entry_fault
entry_fits slots earlier [] name numbers right given = cc
entry_fits slots earlier (entry ∷ entries) name numbers right given =
    let p = both_none (option_map (fault_at entry.place) (rule_of slots earlier entry)) (entry_fault slots (earlier ++ entry ∷ []) entries) right in
    let j = judged_by (slot_named entry.name slots) (is_named entry.name earlier) entry.value (no_rule (rule_of slots earlier entry) entry.place p.0) in
    by_name (bytes_eq name entry.name) refl j given (λ later. entry_fits slots (earlier ++ entry ∷ []) entries name numbers p.1 later)
  where
    by_name : (b : Bool) → bytes_eq name entry.name ≡ b → (slot : Slot) × (slot_named entry.name slots ≡ Some slot)
        × (mismatch slot.shape entry.value ≡ None) → cond b (Some (numbers_of entry.value)) (numbers_for name entries) ≡ Some numbers
        → (numbers_for name entries ≡ Some numbers → Fitting slots name numbers) → Fitting slots name numbers
    by_name true e j given later = record {
      slot = j.0;
      value = entry.value;
      named = ap (λ (n : List ℕ). slot_named n slots)
          ((bytes_eq-Decides name entry.name).0 e) ∙ j.1;
      fits = j.2;
      numbers_are = cc;
    }
    by_name false e j given later = later given

pub named_itself : (slots : List Slot) (i : ℕ) (slot : Slot) → HaveOwnNames slots → slice_get slots i ≡ Some slot → slot_named slot.name slots ≡ Some slot
named_itself [] i slot own at = cc
named_itself (s ∷ slots) zero slot own at =
    let is : s ≡ slot = cc in
    rw ((bytes_eq-Decides slot.name s.name).1 (ap (λ (x : Slot). x.name) (sym is))) (ap Some is)
named_itself (s ∷ slots) (suc i) slot own at =
    let names : List (List ℕ) = map (λ s. s.name) slots in
    let lt : i < length slots = slice_get_within slots i slot at in
    let apart = apart_from_distinct bytes_eq (s.name ∷ names) 0 (suc i) slot.name own (omega arith) (omega (arith, length-map slots (λ (s : Slot). s.name))) in
    let other : bytes_eq s.name slot.name ≡ false = ap (bytes_eq s.name) (sym (at_slot (λ (s : Slot). s.name) slots i slot slot.name at)) ∙ apart in
    rw (bytes_apart s.name slot.name other) (named_itself slots i slot (IsDistinct-tail bytes_eq s.name names own) at)

-- a slot and its value are at one index
pub record Paired (entries : List Entry) (slots : List Slot) (i : ℕ) (value : ValueOf) : Type 0 where
  pub slot : Slot
  pub at : slice_get slots i ≡ Some slot
  pub is : value_for entries slot ≡ Some value

pub paired : (entries : List Entry) (slots : List Slot) (values : List ValueOf) (i : ℕ) (value : ValueOf)
    → map (value_for entries) slots ≡ map Some values → slice_get values i ≡ Some value → Paired entries slots i value
paired entries [] [] i value h at = cc
paired entries [] (v ∷ values) i value h at = cc
paired entries (s ∷ slots) [] i value h at = cc
paired entries (s ∷ slots) (v ∷ values) zero value h at =
    let first : value_for entries s ≡ Some v = cc in let is : v ≡ value = cc in record { slot = s; at = refl; is = first ∙ ap Some is }
paired entries (s ∷ slots) (v ∷ values) (suc i) value h at =
    let rest : map (value_for entries) slots ≡ map Some values = cc in
    let p = paired entries slots values i value rest at in
    record { slot = p.slot; at = p.at; is = p.is }

value_numbers : (shape : Shape) (numbers : Option (List ℤ)) (value : ValueOf) → option_map (value_with shape) numbers ≡ Some value
    → (numbers ≡ Some value.items) × (value.shape ≡ shape)
value_numbers shape None value h = cc
value_numbers shape (Some numbers) value h =
    let k : value_with shape numbers ≡ value = cc in (ap (λ (v : ValueOf). Some v.items) k, ap (λ (v : ValueOf). v.shape) (sym k))

all_from_gets : {X : Type 0} (test : X → Bool) (xs : List X) → ((i : ℕ) (x : X) → slice_get xs i ≡ Some x → test x ≡ true) → list_all test xs ≡ true
all_from_gets test [] h = refl
all_from_gets test (x ∷ xs) h = and_from _ _ (h 0 x refl) (all_from_gets test xs (λ i y at. h (suc i) y at))

-- each value has its shape's number of items, each of its kind
pub values_are : (slots : List Slot) (text : List ℕ) (values : List ValueOf) → HaveOwnNames slots → values_in slots text ≡ Ok values
    → list_all (λ value. is_value value.shape value.items) values ≡ true
values_are slots text values own h =
    let g = (given_in slots text values h).1 in
    all_from_gets (λ value. is_value value.shape value.items) values (λ i value at.
    let p = paired g.entries slots values i value g.values_are at in
    let q = value_numbers p.slot.shape (numbers_for p.slot.name g.entries) value p.is in
    let f = entry_fits slots [] g.entries p.slot.name value.items g.right q.0 in
    let same : f.slot ≡ p.slot = let itself = named_itself slots i p.slot own p.at in let named = f.named in cc in
    let fits : mismatch value.shape f.value ≡ None = ap (λ (shape : Shape). mismatch shape f.value) (q.1 ∙ sym (ap (λ (s : Slot). s.shape) same)) ∙ f.fits in
    subst (λ (items : List ℤ). is_value value.shape items ≡ true) f.numbers_are (fits_is_value value.shape f.value fits))

-- ---- each item has 32 signed bits

in_bits : (number : ℤ) → is_int (unwrap_or (signed_32 number) (pos 0)) ≡ true
in_bits number = by_test (is_int number) refl
  where
    by_test : (b : Bool) → is_int number ≡ b → is_int (unwrap_or (cond b (Some number) None) (pos 0)) ≡ true
    by_test true e = e
    by_test false e = refl

-- a value that there is only where a test passes
where_true : (b : Bool) (s t : Scalar) → cond b (Some s) None ≡ Some t → s ≡ t
where_true true s t h = cc
where_true false s t h = cc

character_bits : (word : List ℕ) (s : Scalar) → character_of word ≡ Some s → is_int (number_of s) ≡ true
character_bits [] s h = cc
character_bits (mark ∷ digits) s h =
    let is = where_true (eqb mark 35 && is_digits digits) (record { kind = Character; number = signed_32 (numeral_value digits) }) s h in
    subst (λ (t : Scalar). is_int (number_of t) ≡ true) is (in_bits (numeral_value digits))

first_or : (b : Bool) (s t : Scalar) (o : Option Scalar) → cond b (Some s) o ≡ Some t → is_int (number_of s) ≡ true
    → (o ≡ Some t → is_int (number_of t) ≡ true) → is_int (number_of t) ≡ true
first_or true s t o h fits later = let is : s ≡ t = cc in subst (λ (u : Scalar). is_int (number_of u) ≡ true) is fits
first_or false s t o h fits later = later h

scalar_bits : (word : List ℕ) (s : Scalar) → scalar_of word ≡ Some s → is_int (number_of s) ≡ true
unfolding scalar_of
scalar_bits word s h =
    first_or (bytes_eq word (codes "true")) (record { kind = Boolean; number = Some (pos 1) }) s
    (cond (bytes_eq word (codes "false")) (Some (record { kind = Boolean; number = Some (pos 0) }))
    (cond (is_numeral word) (Some (record { kind = Integer; number = signed_32 (numeral_value word) })) (character_of word))) h refl (λ h.
    first_or (bytes_eq word (codes "false")) (record { kind = Boolean; number = Some (pos 0) }) s
    (cond (is_numeral word) (Some (record { kind = Integer; number = signed_32 (numeral_value word) })) (character_of word)) h refl (λ h.
    first_or (is_numeral word) (record { kind = Integer; number = signed_32 (numeral_value word) }) s (character_of word) h
    (in_bits (numeral_value word)) (character_bits word s)))

scalar_at_bits : (tree : Node) (s : Scalar) → scalar_at tree ≡ Some s → is_int (number_of s) ≡ true
scalar_at_bits (atom place word) s h = scalar_bits word s h
scalar_at_bits (list place trees) s h = cc

abbrev are_bits : List ℤ → Bool
are_bits numbers = list_all is_int numbers

scalars_bits : (trees : Nodes) (scalars : List Scalar) → scalars_of trees ≡ Some scalars → are_bits (map number_of scalars) ≡ true
unfolding scalars_of
scalars_bits none scalars h = let is : [] ≡ scalars = cc in subst (λ (ss : List Scalar). are_bits (map number_of ss) ≡ true) is refl
scalars_bits (more tree trees) scalars h =
    let p = bind_some (scalar_at tree) (λ first. options.◌>>=◌ (scalars_of trees) (λ others. Some (first ∷ others))) scalars h in
    let q = bind_some (scalars_of trees) (λ others. Some (p.0 ∷ others)) scalars p.2 in
    let is : p.0 ∷ q.0 ≡ scalars = cc (q.2) in
    subst (λ (ss : List Scalar). are_bits (map number_of ss) ≡ true) is (and_from _ _ (scalar_at_bits tree p.0 p.1) (scalars_bits trees q.0 q.1))

single_bits : (o : Option Scalar) (value : ParsedValue) → ((s : Scalar) → o ≡ Some s → is_int (number_of s) ≡ true) → option_map Single o ≡ Some value
    → are_bits (numbers_of value) ≡ true
single_bits None value fits h = cc
single_bits (Some s) value fits h =
    let is : Single s ≡ value = cc in subst (λ (w : ParsedValue). are_bits (numbers_of w) ≡ true) is (and_from _ _ (fits s refl) refl)

several_bits : (o : Option (List Scalar)) (value : ParsedValue) → ((ss : List Scalar) → o ≡ Some ss → are_bits (map number_of ss) ≡ true)
    → option_map Several o ≡ Some value → are_bits (numbers_of value) ≡ true
several_bits None value fits h = cc
several_bits (Some ss) value fits h = let is : Several ss ≡ value = cc in subst (λ (w : ParsedValue). are_bits (numbers_of w) ≡ true) is (fits ss refl)

value_bits : (tree : Node) (value : ParsedValue) → parsed_value tree ≡ Some value → are_bits (numbers_of value) ≡ true
unfolding parsed_value
value_bits (atom place word) value h = single_bits (scalar_of word) value (scalar_bits word) h
value_bits (list place trees) value h = several_bits (scalars_of trees) value (scalars_bits trees) h

entry_bits : (tree : Node) (entry : Entry) → entry_of tree ≡ Some entry → are_bits (numbers_of entry.value) ≡ true
unfolding entry_of
entry_bits (atom place word) entry h = cc
entry_bits (list place trees) entry h =
    let p = bind_some (pair_of trees) (λ pair. options.◌>>=◌ (name_of_tree pair.0)
    (λ name. options.◌>>=◌ (parsed_value pair.1) (λ value. Some (record { place = place; name = name; value = value })))) entry h in
    let q = bind_some (name_of_tree p.0.0) (λ name. options.◌>>=◌ (parsed_value p.0.1)
    (λ value. Some (record { place = place; name = name; value = value }))) entry p.2 in
    let r = bind_some (parsed_value p.0.1) (λ value. Some (record { place = place; name = q.0; value = value })) entry q.2 in
    let made : Entry = record { place = place; name = q.0; value = r.0 } in
    let is : made ≡ entry = cc (r.2) in
    subst (λ (e : Entry). are_bits (numbers_of e.value) ≡ true) is (value_bits p.0.1 r.0 r.1)

entry_ok : (o : Option Entry) (fault : Fault) (entry : Entry) → ok_or o fault ≡ Ok entry → o ≡ Some entry
entry_ok None fault entry h = cc
entry_ok (Some e) fault entry h = cc

abbrev are_entries_bits : List Entry → Bool
are_entries_bits entries = list_all (λ entry. are_bits (numbers_of entry.value)) entries

entries_bits : (trees : Nodes) (entries : List Entry) → entries_of trees ≡ Ok entries → are_entries_bits entries ≡ true
unfolding entries_of
entries_bits none entries h = let is : [] ≡ entries = cc in subst (λ (es : List Entry). are_entries_bits es ≡ true) is refl
entries_bits (more tree trees) entries h =
    let p = bind_ok (entry_at tree) (λ entry. entries_of trees >>= λ others. Ok (entry ∷ others)) entries h in
    let q = bind_ok (entries_of trees) (λ others. Ok (p.0 ∷ others)) entries p.2 in
    let is : p.0 ∷ q.0 ≡ entries = cc (q.2) in
    subst (λ (es : List Entry). are_entries_bits es ≡ true) is
    (and_from _ _ (entry_bits tree p.0 (entry_ok (entry_of tree) (rule_number rules.Form, place_of tree) p.0 p.1)) (entries_bits trees q.0 q.1))

numbers_bits : (name : List ℕ) (entries : List Entry) (numbers : List ℤ) → are_entries_bits entries ≡ true → numbers_for name entries ≡ Some numbers
    → are_bits numbers ≡ true
numbers_bits name [] numbers fit h = cc
numbers_bits name (entry ∷ entries) numbers fit h =
    let p = and_parts _ _ fit in by_name (bytes_eq name entry.name) p.0 h (numbers_bits name entries numbers p.1)
  where
    by_name : (b : Bool) → are_bits (numbers_of entry.value) ≡ true → cond b (Some (numbers_of entry.value)) (numbers_for name entries) ≡ Some numbers
        → (numbers_for name entries ≡ Some numbers → are_bits numbers ≡ true) → are_bits numbers ≡ true
    by_name true fits h later = let is : numbers_of entry.value ≡ numbers = cc in subst (λ (ns : List ℤ). are_bits ns ≡ true) is fits
    by_name false fits h later = later h

pub values_have_32_bits : (slots : List Slot) (text : List ℕ) (values : List ValueOf) → values_in slots text ≡ Ok values
    → list_all (λ value. list_all is_int value.items) values ≡ true
values_have_32_bits slots text values h =
    let given = given_in slots text values h in
    let g = given.1 in
    let fit = entries_bits given.0 g.entries g.read in
    all_from_gets (λ value. list_all is_int value.items) values (λ i value at.
    let p = paired g.entries slots values i value g.values_are at in
    let q = value_numbers p.slot.shape (numbers_for p.slot.name g.entries) value p.is in
    numbers_bits p.slot.name g.entries value.items fit q.0)
