-- The laws of flags, addresses, shapes and slots.
use Rattle.std.proofs.Common.{◌≡◌, ℕ, ◌+◌, ◌^◌, ◌<◌, ◌≤◌, Bool, true, false, cond, ◌&&◌, ltb, leb, eqb, List, ◌++◌, map, Option, Some, None, Result, Ok, refl}
use Rattle.std.{proofs.Common.{sym, ap, subst, ◌∙◌, append_assoc, arith, inl, inr}, proofs.lemmas.Bool.{lt-ltb, le-leb, ltb-true, leb-true, and_parts}}
use Rattle.std.proofs.lemmas.Bool.{and_from, eqb-true, ne_eqb, cases_Bool, agree_below_at}
use Rattle.stack_text.{specs.declared.shape.Kind.Kind, specs.declared.shape.Kind.TheVariants.{Integer, Boolean, Character}, specs.declared.shape.Shape.Shape}
use Rattle.stack_text.{specs.Values.item_count, specs.Results.◌>>=◌, proofs.ResultLaws.{bind_ok, bind_at}}
use Rattle.fm_words.{specs.declared.condition.Flags.Flags, specs.Code.flags_of, specs.Encoding.flags_number, proofs.FlagsLaws.flags_of_back}
use Rattle.fm_words.proofs.FlagsLaws.{flags_number_back, flags_number_below}
use Rattle.fm_image.specs.declared.fault.Rule.TheVariants as rules
use Rattle.fm_image.{specs.declared.procedure.VarInfo.VarInfo, specs.declared.slot.Slot.Slot, specs.declared.window.Window.Window, specs.Limits.is_size}
use Rattle.fm_image.specs.Limits.{is_inside, is_window, is_condition_address, is_condition, is_slot, is_slot_address, is_offset, is_variable}
use Rattle.fm_image.specs.Spelling.{number_bytes, name_bytes, flags_bytes, address_number, condition_address_bytes, kind_number, kind_bytes, shape_bytes}
use Rattle.fm_image.{specs.Spelling.{slot_bytes, variable_bytes}, specs.Rules.Fault, specs.Fields.{number_at, passing}, specs.Reading.{is_flags, flags_at}}
use Rattle.fm_image.specs.Reading.{address_from, condition_address_at, new_name_at, is_kind, kind_of, kind_at, is_length, shape_at, slot_at, variable_at}
use Rattle.fm_image.{proofs.ReaderLaws.{IsBytes, ok_is, Took, Took-then, Reads, is_word, coded_reads, three_reads}, proofs.FieldLaws.{limited_reads, both}}
use Rattle.fm_image.proofs.FieldLaws.{small_reads, new_name_reads}

-- ---- flags

flags_there : (f : Flags) → (flags_of (flags_number f) ≡ f) × ((is_word (flags_number f) && is_flags (flags_number f)) ≡ true)
flags_there f =
    let n = flags_number f in
    let below : n < 16 = flags_number_below f in
    (flags_of_back f, and_from (is_word n) (is_flags n) (lt-ltb n (2 ^ 32) (omega arith)) (le-leb n 15 (omega arith)))

flags_back : (n : ℕ) → (is_word n && is_flags n) ≡ true → (flags_number (flags_of n) ≡ n) × (true ≡ true)
flags_back n h =
    let le : n ≤ 15 = leb-true n 15 (and_parts (is_word n) (is_flags n) h).1 in
    (flags_number_back n (omega (arith, le)), refl)

pub flags_reads : (end : ℕ) → Reads (flags_at end) flags_bytes (λ flags. true)
flags_reads end =
    coded_reads flags_of flags_number (passing is_flags rules.Limit end (number_at end)) number_bytes (λ n. is_word n && is_flags n) (λ flags. true)
    (limited_reads is_flags rules.Limit end)
    flags_back (λ f h. flags_there f)

-- ---- the condition address

address_back : (n : ℕ) → address_number (address_from n) ≡ n
address_back n =
    elim (cases_Bool (eqb n 4294967295)) [
      | inl e ↦ ap (λ (b : Bool). address_number (cond b None (Some n))) e ∙ sym (eqb-true n 4294967295 e)
      | inr e ↦ ap (λ (b : Bool). address_number (cond b None (Some n))) e
    ]

address_there : (window : Window) → is_window window ≡ true → (a : Option ℕ) → is_condition_address window a ≡ true
    → (address_from (address_number a) ≡ a) × ((is_word (address_number a) && is_condition_address window (address_from (address_number a))) ≡ true)
address_there window sized None h = (refl, refl)
address_there window sized (Some a) h =
    let p = and_parts (is_size window.base window.size) (is_inside window.base window.size window.final_pc) sized in
    let q = and_parts (leb 1 window.size && leb window.size 1048576) (leb (window.base + window.size) 4294967295) p.0 in
    let last : window.base + window.size ≤ 4294967295 = leb-true (window.base + window.size) 4294967295 q.1 in
    let inside : a < window.base + window.size =
    ltb-true a (window.base + window.size) (and_parts (leb window.base a) (ltb a (window.base + window.size)) h).1 in
    let other : eqb a 4294967295 ≡ false = ne_eqb a 4294967295 (λ e. omega (arith, e, last, inside)) in
    let same : address_from a ≡ Some a = ap (λ (b : Bool). cond b None (Some a)) other in
    (same, and_from _ _ (lt-ltb a (2 ^ 32) (omega (arith, last, inside))) (ap (is_condition_address window) same ∙ h))

pub address_reads : (end : ℕ) (window : Window) → is_window window ≡ true → Reads (condition_address_at end window) condition_address_bytes
    (is_condition_address window)
address_reads end window sized =
    coded_reads address_from address_number (passing (λ n. is_condition_address window (address_from n)) rules.Address end (number_at end)) number_bytes
    (λ n. is_word n && is_condition_address window (address_from n)) (is_condition_address window)
    (limited_reads (λ n. is_condition_address window (address_from n)) rules.Address end)
    (λ n h. (address_back n, (and_parts (is_word n) (is_condition_address window (address_from n)) h).1)) (address_there window sized)

-- ---- shapes

kind_there : (k : Kind) → true ≡ true → (kind_of (kind_number k) ≡ k) × ((is_word (kind_number k) && is_kind (kind_number k)) ≡ true)
kind_there Integer h = (refl, refl)
kind_there Boolean h = (refl, refl)
kind_there Character h = (refl, refl)

kind_back : (n : ℕ) → (is_word n && is_kind n) ≡ true → (kind_number (kind_of n) ≡ n) × (true ≡ true)
kind_back n h =
    let le : n ≤ 2 = leb-true n 2 (and_parts (is_word n) (is_kind n) h).1 in
    (eqb-true _ _ (agree_below_at (λ k. eqb (kind_number (kind_of k)) k) (λ k. true) 3 n refl (omega (arith, le))), refl)

kind_reads : (end : ℕ) → Reads (kind_at end) kind_bytes (λ kind. true)
kind_reads end =
    coded_reads kind_of kind_number (passing is_kind rules.Limit end (number_at end)) number_bytes (λ n. is_word n && is_kind n) (λ kind. true)
    (limited_reads is_kind rules.Limit end) kind_back kind_there

abbrev length_after : ℕ → Kind × List ℕ → Result (Shape × List ℕ) Fault
length_after end kind = passing is_length rules.Limit end (number_at end) kind.1 >>= λ count. Ok (record { kind = kind.0; length = count.0 }, count.1)

shape_takes : (end : ℕ) (bytes : List ℕ) (s : Shape) (rest : List ℕ) → IsBytes bytes → shape_at end bytes ≡ Ok (s, rest)
    → Took bytes (shape_bytes s) rest × (is_length s.length ≡ true)
shape_takes end bytes s rest ok e =
    let a = bind_ok (kind_at end bytes) (length_after end) (s, rest) e in
    let b = bind_ok (passing is_length rules.Limit end (number_at end) a.0.1) (λ count. Ok (record { kind = a.0.0; length = count.0 }, count.1))
    (s, rest) a.2 in
    let t0 = (kind_reads end).takes bytes a.0.0 a.0.1 ok a.1 in
    let t1 = (limited_reads is_length rules.Limit end).takes a.0.1 b.0.0 b.0.1 t0.0.rest_fits b.1 in
    let made : Shape × List ℕ = (record { kind = a.0.0; length = b.0.0 }, b.0.1) in
    subst (λ (y : Shape × List ℕ). Took bytes (shape_bytes y.0) y.1 × (is_length y.0.length ≡ true)) (ok_is made (s, rest) b.2)
    (Took-then bytes (kind_bytes a.0.0) a.0.1 (number_bytes b.0.0) b.0.1 t0.0 t1.0, (and_parts (is_word b.0.0) (is_length b.0.0) t1.1).1)

shape_again : (end : ℕ) (s : Shape) (rest : List ℕ) → is_length s.length ≡ true → shape_at end (shape_bytes s ++ rest) ≡ Ok (s, rest)
shape_again end s rest h =
    let le : s.length ≤ 4096 = leb-true s.length 4096 h in
    ap (shape_at end) (append_assoc (kind_bytes s.kind) (number_bytes s.length) rest)
    ∙ bind_at (kind_at end (kind_bytes s.kind ++ (number_bytes s.length ++ rest))) (length_after end) (s.kind, number_bytes s.length ++ rest)
    ((kind_reads end).again s.kind (number_bytes s.length ++ rest) refl)
    ∙ bind_at (passing is_length rules.Limit end (number_at end) (number_bytes s.length ++ rest))
    (λ count. Ok (record { kind = s.kind; length = count.0 }, count.1)) (s.length, rest)
    ((limited_reads is_length rules.Limit end).again s.length rest (both s.length 4096 (is_length s.length) le (omega arith) h))

shape_reads : (end : ℕ) → Reads (shape_at end) shape_bytes (λ s. is_length s.length)
shape_reads end = record { takes = shape_takes end; again = shape_again end }

-- ---- slots

address_small : (window : Window) → is_window window ≡ true → (shape : Shape) (n : ℕ) → is_slot_address window shape n ≡ true → n < 2 ^ 32
address_small window sized shape n h =
    let w = and_parts (is_size window.base window.size) (is_inside window.base window.size window.final_pc) sized in
    let v = and_parts (leb 1 window.size && leb window.size 1048576) (leb (window.base + window.size) 4294967295) w.0 in
    let last : window.base + window.size ≤ 4294967295 = leb-true (window.base + window.size) 4294967295 v.1 in
    let inside : n < window.base + window.size =
    ltb-true n (window.base + window.size) (and_parts (leb (window.base + item_count shape) (n + 1)) (ltb n (window.base + window.size)) h).1 in
    omega (arith, last, inside)

pub slot_reads : (end : ℕ) (window : Window) → is_window window ≡ true → (earlier : List Slot)
    → Reads (slot_at end window (map (λ slot. slot.name) earlier)) slot_bytes (is_slot window earlier)
unfolding slot_at
slot_reads end window sized earlier =
    three_reads (λ name shape address. record { name = name; shape = shape; address = address }) (λ s. s.name) (λ s. s.shape) (λ s. s.address)
    (new_name_at end (map (λ slot. slot.name) earlier)) (λ name. shape_at end)
    (λ name shape. passing (is_slot_address window shape) rules.Address end (number_at end))
    name_bytes shape_bytes number_bytes slot_bytes (is_condition (map (λ slot. slot.name) earlier)) (λ name s. is_length s.length)
    (λ name s. is_slot_address window s) (is_slot window earlier)
    (new_name_reads end (map (λ slot. slot.name) earlier)) (λ name. shape_reads end)
    (λ name s. small_reads (is_slot_address window s) rules.Address end (address_small window sized s))
    (λ name shape address. refl) (λ name shape address. refl) (λ s. refl)

-- ---- variables

offset_small : (n : ℕ) → is_offset n ≡ true → n < 2 ^ 32
offset_small n h = let le : n ≤ 199 = leb-true n 199 h in omega (arith, le)

pub variable_reads : (end : ℕ) (earlier : List VarInfo) → Reads (variable_at end (map (λ variable. variable.name) earlier)) variable_bytes (is_variable earlier)
unfolding variable_at
variable_reads end earlier =
    three_reads (λ name shape offset. record { name = name; shape = shape; offset = offset }) (λ v. v.name) (λ v. v.shape) (λ v. v.offset)
    (new_name_at end (map (λ variable. variable.name) earlier)) (λ name. shape_at end) (λ name shape. passing is_offset rules.Limit end (number_at end))
    name_bytes shape_bytes number_bytes variable_bytes (is_condition (map (λ variable. variable.name) earlier)) (λ name s. is_length s.length)
    (λ name s. is_offset) (is_variable earlier)
    (new_name_reads end (map (λ variable. variable.name) earlier)) (λ name. shape_reads end) (λ name s. small_reads is_offset rules.Limit end offset_small)
    (λ name shape offset. refl) (λ name shape offset. refl) (λ v. refl)
