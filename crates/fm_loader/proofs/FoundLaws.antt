-- What each slot gets.
use Rattle.std.proofs.Common.{◌≡◌, ℕ, ℤ, zero, suc, ◌+◌, ◌<◌, ◌≤◌, List, [], ◌∷◌, ◌++◌, map, length, get_or, take, drop, Bool, true, false, cond, ◌||◌, Option}
use Rattle.std.{proofs.Common.{Some, None, Result, Ok, Err, option_map, is_some, refl, sym, ap, subst, ◌∙◌, append_assoc, arith}, specs.Prelude.slice_set}
use Rattle.std.{specs.Prelude.replicate, specs.List.{AllByRecursion, slice_get}, specs.Str.bytes_eq, proofs.lemmas.List.{append-nil, drop_all, take_all}}
use Rattle.std.{proofs.lemmas.List.{take_more, length-map}, proofs.lemmas.Map.Keys.{IsDistinct-head, IsDistinct-tail, apart_from_distinct}}
use Rattle.std.{proofs.lemmas.Slice.Eq.bytes_eq-Decides, proofs.lemmas.Option.slice_get_within}
use Rattle.stack_text.{proofs.Loops.drop-item, proofs.ResultLoops.with_front, specs.declared.shape.Shape.Shape, specs.Values.ValueOf}
use Rattle.stack_text.{specs.Results.unless_fault, proofs.SharedLaws.bytes_apart}
use Rattle.fm_image.specs.declared.slot.Slot.{Slot}
use Rattle.fm_loader.{specs.declared.parsed.Entry.Entry, specs.declared.fault.Rule.Rule, specs.declared.fault.ValuesFault.ValuesFault}
use Rattle.fm_loader.{specs.declared.fault.ValuesFault.TheVariants.{Refused, Memory}, specs.Rules.{rule_number, Fault, FailsUnless}, specs.Values.mismatch}
use Rattle.fm_loader.specs.Values.{rule_broken, value_or_fault, found_in, is_named, slot_named, rule_of, fault_at, entry_fault, numbers_of, numbers_for}
use Rattle.fm_loader.{specs.Values.{value_with, value_for, all_found, HaveOwnNames}, proofs.NameLaws.named_same}
use Rattle.fm_loader.specs.declared.fault.Rule.TheVariants as rules

-- ---- all are there

value_before : (place : ℕ) (front : List ValueOf) (x : ValueOf) (rest : List (Option ValueOf)) (r : Result (List ValueOf) Fault)
    → all_found place rest ≡ r → with_front front (all_found place (Some x ∷ rest)) ≡ with_front (front ++ x ∷ []) r
unfolding all_found
value_before place front x rest (Ok others) e = rw e (ap Ok (sym (append_assoc front (x ∷ []) others)))
value_before place front x rest (Err fault) e = rw e refl

pub found_next : (place : ℕ) (front : List ValueOf) (x : ValueOf) (left rest : List (Option ValueOf)) (all : Result (List ValueOf) Fault)
    → left ≡ Some x ∷ rest → all ≡ with_front front (all_found place left) → all ≡ with_front (front ++ x ∷ []) (all_found place rest)
found_next place front x left rest all is so_far =
    so_far ∙ ap (λ (l : List (Option ValueOf)). with_front front (all_found place l)) is ∙ value_before place front x rest (all_found place rest) refl

pub found_stop : (place : ℕ) (front : List ValueOf) (left rest : List (Option ValueOf)) (all : Result (List ValueOf) Fault) → left ≡ None ∷ rest
    → all ≡ with_front front (all_found place left) → all ≡ Err (rule_number rules.Missing, place)
unfolding all_found
found_stop place front left rest all is so_far = so_far ∙ ap (λ (l : List (Option ValueOf)). with_front front (all_found place l)) is

pub found_end : (place : ℕ) (front : List ValueOf) (left : List (Option ValueOf)) (all : Result (List ValueOf) Fault) → left ≡ []
    → all ≡ with_front front (all_found place left) → all ≡ Ok front
unfolding all_found
found_end place front left all is so_far = so_far ∙ ap (λ (l : List (Option ValueOf)). with_front front (all_found place l)) is ∙ ap Ok (append-nil front)

-- ---- one entry more

entry_behind : (entries : List Entry) (i : ℕ) (entry : Entry) → i < length entries → entry ≡ get_or entries i entry
    → take (i + 1) entries ≡ take i entries ++ entry ∷ []
entry_behind entries i entry lt is = take_more entries i entry lt ∙ ap (λ (e : Entry). take i entries ++ e ∷ []) (sym is)

-- the entry breaks a rule
pub fault_now : (slots : List Slot) (entries : List Entry) (i : ℕ) (entry : Entry) (rule : Rule) (all : Option Fault) → i < length entries
    → entry ≡ get_or entries i entry → rule_of slots (take i entries) entry ≡ Some rule
    → all ≡ entry_fault slots (take i entries) (drop i entries) → all ≡ Some (fault_at entry.place rule)
unfolding entry_fault
fault_now slots entries i entry rule all lt is breaks so_far =
    so_far ∙ ap (entry_fault slots (take i entries)) (drop-item entries i entry lt is) ∙ rw breaks refl

-- it breaks none
pub fault_later : (slots : List Slot) (entries : List Entry) (i : ℕ) (entry : Entry) (all : Option Fault) → i < length entries
    → entry ≡ get_or entries i entry → rule_of slots (take i entries) entry ≡ None
    → all ≡ entry_fault slots (take i entries) (drop i entries) → all ≡ entry_fault slots (take (i + 1) entries) (drop (i + 1) entries)
unfolding entry_fault
fault_later slots entries i entry all lt is breaks so_far =
    so_far ∙ ap (entry_fault slots (take i entries)) (drop-item entries i entry lt is)
    ∙ rw breaks (ap (λ (es : List Entry). entry_fault slots es (drop (i + 1) entries)) (sym (entry_behind entries i entry lt is)))

-- a slot has a value exactly where an earlier entry has its name
has_value : (name : List ℕ) (shape : Shape) (entries : List Entry) → is_some (option_map (value_with shape) (numbers_for name entries)) ≡ is_named name entries
has_value name shape [] = refl
has_value name shape (entry ∷ entries) = by_test (bytes_eq name entry.name) (has_value name shape entries)
  where
    by_test : (b : Bool) → is_some (option_map (value_with shape) (numbers_for name entries)) ≡ is_named name entries
        → is_some (option_map (value_with shape) (cond b (Some (numbers_of entry.value)) (numbers_for name entries))) ≡ (b || is_named name entries)
    by_test true e = refl
    by_test false e = e

pub at_slot : {X : Type 0} (f : Slot → X) (slots : List Slot) (index : ℕ) (slot : Slot) (x : X) → slice_get slots index ≡ Some slot
    → get_or (map f slots) index x ≡ f slot
at_slot f [] index slot x h = cc
at_slot f (s ∷ slots) zero slot x h = let same : s ≡ slot = cc in ap f same
at_slot f (s ∷ slots) (suc index) slot x h = at_slot f slots index slot x h

pub is_repeated : (slots : List Slot) (earlier : List Entry) (name : List ℕ) (index : ℕ) (slot : Slot) (found : List (Option ValueOf))
    (x : Option ValueOf) → Some slot ≡ slot_named name slots → slice_get slots index ≡ Some slot → x ≡ get_or found index x
    → found ≡ map (value_for earlier) slots → is_some x ≡ is_named name earlier
is_repeated slots earlier name index slot found x named at is found_is =
    ap is_some (is ∙ ap (λ (xs : List (Option ValueOf)). get_or xs index x) found_is ∙ at_slot (value_for earlier) slots index slot x at)
    ∙ has_value slot.name slot.shape earlier ∙ ap (λ (n : List ℕ). is_named n earlier) (sym (named_same name slots slot named))

-- one entry more changes nothing for another name
numbers_other : (name : List ℕ) (entries : List Entry) (entry : Entry) → bytes_eq name entry.name ≡ false
    → numbers_for name (entries ++ entry ∷ []) ≡ numbers_for name entries
numbers_other name [] entry ne = rw ne refl
numbers_other name (e ∷ entries) entry ne =
    ap (λ (o : Option (List ℤ)). cond (bytes_eq name e.name) (Some (numbers_of e.value)) o) (numbers_other name entries entry ne)

-- and gives a new name its numbers
numbers_new : (name : List ℕ) (entries : List Entry) (entry : Entry) → is_named name entries ≡ false → name ≡ entry.name
    → numbers_for name (entries ++ entry ∷ []) ≡ Some (numbers_of entry.value)
numbers_new name [] entry new same = rw ((bytes_eq-Decides name entry.name).1 same) refl
numbers_new name (e ∷ entries) entry new same = by_test (bytes_eq name e.name) new (λ later. numbers_new name entries entry later same)
  where
    by_test : (b : Bool) → (b || is_named name entries) ≡ false
        → (is_named name entries ≡ false → numbers_for name (entries ++ entry ∷ []) ≡ Some (numbers_of entry.value))
        → cond b (Some (numbers_of e.value)) (numbers_for name (entries ++ entry ∷ [])) ≡ Some (numbers_of entry.value)
    by_test true new later = cc
    by_test false new later = later new

others_keep : (slots : List Slot) (entries : List Entry) (entry : Entry) → AllByRecursion (λ name. bytes_eq entry.name name ≡ false)
    (map (λ s. s.name) slots) → map (value_for entries) slots ≡ map (value_for (entries ++ entry ∷ [])) slots
others_keep [] entries entry apart = refl
others_keep (s ∷ slots) entries entry apart =
    let first : value_for entries s ≡ value_for (entries ++ entry ∷ []) s =
    ap (option_map (value_with s.shape)) (sym (numbers_other s.name entries entry (bytes_apart entry.name s.name apart.0))) in
    rw first (ap (λ (vs : List (Option ValueOf)). value_for (entries ++ entry ∷ []) s ∷ vs) (others_keep slots entries entry apart.1))

pub value_set : (slots : List Slot) (index : ℕ) (slot : Slot) (entries : List Entry) (entry : Entry) → HaveOwnNames slots
    → slice_get slots index ≡ Some slot → entry.name ≡ slot.name → is_named entry.name entries ≡ false
    → slice_set (map (value_for entries) slots) index (Some (value_with slot.shape (numbers_of entry.value))) ≡ map (value_for (entries ++ entry ∷ [])) slots
value_set [] index slot entries entry own at same new = refl
value_set (s ∷ slots) zero slot entries entry own at same new =
    let is : s ≡ slot = cc in
    let apart : AllByRecursion (λ name. bytes_eq entry.name name ≡ false) (map (λ s. s.name) slots) =
    subst (λ (n : List ℕ). AllByRecursion (λ name. bytes_eq n name ≡ false) (map (λ s. s.name) slots)) (ap (λ (s : Slot). s.name) is ∙ sym same)
    (IsDistinct-head bytes_eq s.name (map (λ s. s.name) slots) own) in
    let first : value_for (entries ++ entry ∷ []) slot ≡ Some (value_with slot.shape (numbers_of entry.value)) =
    ap (option_map (value_with slot.shape)) (numbers_new slot.name entries entry (ap (λ (n : List ℕ). is_named n entries) (sym same) ∙ new) (sym same)) in
    sym (ap (λ (x : Slot). map (value_for (entries ++ entry ∷ [])) (x ∷ slots)) is
    ∙ ap (λ (v : Option ValueOf). v ∷ map (value_for (entries ++ entry ∷ [])) slots) first
    ∙ ap (λ (vs : List (Option ValueOf)). Some (value_with slot.shape (numbers_of entry.value)) ∷ vs) (sym (others_keep slots entries entry apart)))
value_set (s ∷ slots) (suc index) slot entries entry own at same new =
    let names : List (List ℕ) = map (λ s. s.name) slots in
    let lt : index < length slots = slice_get_within slots index slot at in
    let apart = apart_from_distinct bytes_eq (s.name ∷ names) 0 (suc index) slot.name own (omega arith)
    (omega (arith, length-map slots (λ (s : Slot). s.name))) in
    let other : bytes_eq s.name entry.name ≡ false = ap (bytes_eq s.name) (same ∙ sym (at_slot (λ (s : Slot). s.name) slots index slot slot.name at)) ∙ apart in
    let first : value_for entries s ≡ value_for (entries ++ entry ∷ []) s =
    ap (option_map (value_with s.shape)) (sym (numbers_other s.name entries entry other)) in
    rw first (ap (λ (vs : List (Option ValueOf)). value_for (entries ++ entry ∷ []) s ∷ vs)
    (value_set slots index slot entries entry (IsDistinct-tail bytes_eq s.name names own) at same new))

-- ---- as the loop uses them

pub nothing_yet : (slots : List Slot) → replicate (length slots) None ≡ map (value_for []) slots
nothing_yet [] = refl
nothing_yet (slot ∷ slots) = ap (λ (vs : List (Option ValueOf)). None ∷ vs) (nothing_yet slots)

pub within_found : (slots : List Slot) (entries : List Entry) (found : List (Option ValueOf)) (index : ℕ) (slot : Slot)
    → found ≡ map (value_for entries) slots → slice_get slots index ≡ Some slot → index < length found
within_found slots entries found index slot found_is at =
    let lt = slice_get_within slots index slot at in
    omega (arith, lt, ap length found_is, length-map slots (value_for entries))

refused : (slots : List Slot) (entries : List Entry) (i : ℕ) (entry : Entry) (rule : Rule) → i < length entries → entry ≡ get_or entries i entry
    → rule_of slots (take i entries) entry ≡ Some rule
    → entry_fault slots [] entries ≡ entry_fault slots (take i entries) (drop i entries) → found_in slots entries ≡ Err (fault_at entry.place rule)
refused slots entries i entry rule lt is breaks so_far = rw (fault_now slots entries i entry rule (entry_fault slots [] entries) lt is breaks so_far) refl

pub no_such_slot : (slots : List Slot) (entries : List Entry) (i : ℕ) (entry : Entry) → i < length entries → entry ≡ get_or entries i entry
    → None ≡ slot_named entry.name slots
    → entry_fault slots [] entries ≡ entry_fault slots (take i entries) (drop i entries) → found_in slots entries ≡ Err (fault_at entry.place rules.Unknown)
no_such_slot slots entries i entry lt is named so_far = refused slots entries i entry rules.Unknown lt is (rw (← named) refl) so_far

rule_at : (slots : List Slot) (earlier : List Entry) (entry : Entry) (slot : Slot) (b : Bool) → Some slot ≡ slot_named entry.name slots
    → b ≡ is_named entry.name earlier → rule_of slots earlier entry ≡ rule_broken (Some slot) b entry.value
rule_at slots earlier entry slot b named repeated = rw (← named, ← repeated) refl

pub second_time : (slots : List Slot) (entries : List Entry) (i : ℕ) (entry : Entry) (slot : Slot) → i < length entries → entry ≡ get_or entries i entry
    → Some slot ≡ slot_named entry.name slots → true ≡ is_named entry.name (take i entries)
    → entry_fault slots [] entries ≡ entry_fault slots (take i entries) (drop i entries) → found_in slots entries ≡ Err (fault_at entry.place rules.Repeated)
second_time slots entries i entry slot lt is named repeated so_far =
    refused slots entries i entry rules.Repeated lt is (rule_at slots (take i entries) entry slot true named repeated) so_far

-- the rule of a value that doesn't fit
unfit_rule : (m : Option Rule) (place : ℕ) (value : ValueOf) (fault : Fault) → unless_fault (option_map (fault_at place) m) value ≡ Err fault
    → (rule : Rule) × (m ≡ Some rule) × (fault_at place rule ≡ fault)
unfit_rule None place value fault h = cc
unfit_rule (Some rule) place value fault h = (rule, refl, cc)

fit_rule : (m : Option Rule) (place : ℕ) (value v : ValueOf) → unless_fault (option_map (fault_at place) m) value ≡ Ok v → (m ≡ None) × (v ≡ value)
fit_rule None place value v h = (refl, cc)
fit_rule (Some rule) place value v h = cc

pub unfit : (memory : Type 0) (e : ValuesFault) (slots : List Slot) (entries : List Entry) (i : ℕ) (entry : Entry) (slot : Slot) → i < length entries
    → entry ≡ get_or entries i entry → Some slot ≡ slot_named entry.name slots → false ≡ is_named entry.name (take i entries)
    → FailsUnless memory e (value_or_fault slot.shape entry) → entry_fault slots [] entries ≡ entry_fault slots (take i entries) (drop i entries)
    → FailsUnless memory e (found_in slots entries)
unfit memory Memory slots entries i entry slot lt is named new fails so_far = fails
unfit memory (Refused rule place) slots entries i entry slot lt is named new fails so_far =
    let p = unfit_rule (mismatch slot.shape entry.value) entry.place (value_with slot.shape (numbers_of entry.value)) (rule, place) fails in
    refused slots entries i entry p.0 lt is (rule_at slots (take i entries) entry slot false named new ∙ p.1) so_far ∙ ap (λ (fault : Fault). Err fault) p.2

pub one_more : (slots : List Slot) (entries : List Entry) (i : ℕ) (entry : Entry) (index : ℕ) (slot : Slot) (found : List (Option ValueOf))
    (value : ValueOf) → HaveOwnNames slots → i < length entries → entry ≡ get_or entries i entry
    → Some slot ≡ slot_named entry.name slots → slice_get slots index ≡ Some slot → false ≡ is_named entry.name (take i entries)
    → value_or_fault slot.shape entry ≡ Ok value → found ≡ map (value_for (take i entries)) slots
    → slice_set found index (Some value) ≡ map (value_for (take (i + 1) entries)) slots
one_more slots entries i entry index slot found value own lt is named at new fits found_is =
    let p = fit_rule (mismatch slot.shape entry.value) entry.place (value_with slot.shape (numbers_of entry.value)) value fits in
    ap (λ (vs : List (Option ValueOf)). slice_set vs index (Some value)) found_is
    ∙ ap (λ (v : ValueOf). slice_set (map (value_for (take i entries)) slots) index (Some v)) p.1
    ∙ value_set slots index slot (take i entries) entry own at (named_same entry.name slots slot named) (sym new)
    ∙ ap (λ (es : List Entry). map (value_for es) slots) (sym (entry_behind entries i entry lt is))

pub breaks_none : (slots : List Slot) (entries : List Entry) (i : ℕ) (entry : Entry) (slot : Slot) (value : ValueOf) → i < length entries
    → entry ≡ get_or entries i entry → Some slot ≡ slot_named entry.name slots → false ≡ is_named entry.name (take i entries)
    → value_or_fault slot.shape entry ≡ Ok value → entry_fault slots [] entries ≡ entry_fault slots (take i entries) (drop i entries)
    → entry_fault slots [] entries ≡ entry_fault slots (take (i + 1) entries) (drop (i + 1) entries)
breaks_none slots entries i entry slot value lt is named new fits so_far =
    let p = fit_rule (mismatch slot.shape entry.value) entry.place (value_with slot.shape (numbers_of entry.value)) value fits in
    fault_later slots entries i entry (entry_fault slots [] entries) lt is (rule_at slots (take i entries) entry slot false named new ∙ p.0) so_far

pub all_judged : (slots : List Slot) (entries : List Entry) (i : ℕ) (found : List (Option ValueOf)) → length entries ≤ i
    → found ≡ map (value_for (take i entries)) slots → entry_fault slots [] entries ≡ entry_fault slots (take i entries) (drop i entries)
    → found_in slots entries ≡ Ok found
unfolding entry_fault
all_judged slots entries i found past found_is so_far =
    let none : entry_fault slots [] entries ≡ None = so_far ∙ ap (entry_fault slots (take i entries)) (drop_all i entries past) in
    rw none (ap Ok (sym (found_is ∙ ap (λ (es : List Entry). map (value_for es) slots) (take_all i entries past))))
