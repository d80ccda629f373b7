-- The laws of the whole image: what is read is spelled so, and what is spelled so is read.
use Rattle.std.proofs.Common.{◌≡◌, ℕ, ◌+◌, ◌^◌, ◌<◌, ◌≤◌, Bool, true, false, cond, ◌&&◌, leb, eqb, List, [], ◌∷◌, ◌++◌, length, map, Option, Result, Ok, Err}
use Rattle.std.{proofs.Common.{refl, sym, ap, subst, ◌∙◌, append_assoc, arith}, specs.Prelude.{IsTrue, IfOk}, proofs.lemmas.Bool.{leb-true, and_parts}}
use Rattle.std.{proofs.lemmas.Bool.{and_from, eqb-true, eq-eqb}, proofs.lemmas.List.{append-nil, nil_from_length}}
use Rattle.fm_words.specs.declared.condition.Flags.{Flags}
use Rattle.fm_image.{specs.declared.fault.ImageFault.ImageFault, specs.declared.fault.ImageFault.TheVariants.{Refused, Memory}, specs.declared.slot.Slot.Slot}
use Rattle.fm_image.{specs.declared.window.Window.Window, specs.Image.ImageOf, specs.Limits.{Tables, tables_of, window_of, is_version, is_size, is_inside}}
use Rattle.fm_image.specs.Limits.{is_window, is_condition_address, is_condition, is_count, most_conditions, is_slot, is_tables, all_after, is_image}
use Rattle.fm_image.specs.Spelling.{number_bytes, numbers_bytes, name_bytes, counted_bytes, window_bytes, flags_bytes, condition_address_bytes, slot_bytes}
use Rattle.fm_image.{specs.Spelling.{opening_bytes, tables_bytes, spelling, are_words, Spelled}, specs.Rules.{Fault, GivesImageUnless}, specs.Fields.place}
use Rattle.fm_image.{specs.Fields.number_at, specs.Reading.{opening_at, window_at, numbers_at, flags_at, condition_address_at, conditions_at, slot_at}}
use Rattle.fm_image.{specs.Reading.{slots_at, words_at, tables_at, image_at, read_of, error_of, ReportsFault}, proofs.LimitLaws.{Limits, limits_of}}
use Rattle.fm_image.{proofs.LimitLaws.from_limits, proofs.ReaderLaws.{IsBytes, ok_is, guard_passed, Took, Took-then, Reads, is_word, number_reads, items_take}}
use Rattle.fm_image.{proofs.ReaderLaws.{items_again, counted_reads}, proofs.FieldLaws.{opening_reads, window_reads}, proofs.SlotLaws.flags_reads}
use Rattle.fm_image.{proofs.SlotLaws.{address_reads, slot_reads}, proofs.TableLaws.{small_count, conditions_reads, tables_reads}}
use Rattle.stack_text.{specs.Results.◌>>=◌, proofs.ResultLaws.{bind_ok, bind_at}}

abbrev is_number : List ℕ → ℕ → Bool
is_number earlier n = is_word n

words_same : (earlier numbers : List ℕ) → all_after is_number earlier numbers ≡ are_words numbers
unfolding all_after
words_same earlier [] = refl
words_same earlier (n ∷ numbers) = ap (λ (b : Bool). is_word n && b) (words_same (earlier ++ n ∷ []) numbers)

-- ---- the counted fields

slots_reads : (end : ℕ) (window : Window) → is_window window ≡ true → Reads (slots_at end window) (counted_bytes slot_bytes)
    (λ slots. is_count 200 (length slots) && all_after (is_slot window) [] slots)
unfolding slots_at
slots_reads end window sized =
    counted_reads (λ earlier. slot_at end window (map (λ slot. slot.name) earlier)) slot_bytes (is_slot window) (slot_reads end window sized)
    (is_count 200) end (small_count 200 (omega arith))

words_reads : (end : ℕ) (window : Window) → is_window window ≡ true → Reads (words_at end window) (counted_bytes number_bytes)
    (λ words. is_count window.size (length words) && all_after is_number [] words)
unfolding words_at
words_reads end window sized =
    let p = and_parts (is_size window.base window.size) (is_inside window.base window.size window.final_pc) sized in
    let q = and_parts (leb 1 window.size && leb window.size 1048576) (leb (window.base + window.size) 4294967295) p.0 in
    let last : window.base + window.size ≤ 4294967295 = leb-true (window.base + window.size) 4294967295 q.1 in
    counted_reads (λ earlier. number_at end) number_bytes is_number (λ earlier. number_reads end) (is_count window.size) end
    (small_count window.size (omega (arith, last)))

-- ---- what is done after each field

abbrev made : ℕ → Window → List ℕ → Flags → Option ℕ → List (List ℕ) → List Slot → List ℕ → Tables → ImageOf
made version w registers flags address conditions slots words tables = record {
  version = version;
  base = w.base;
  size = w.size;
  final_pc = w.final_pc;
  registers = registers;
  flags = flags;
  condition_address = address;
  conditions = conditions;
  slots = slots;
  words = words;
  procedures = tables.procedures;
  marks = tables.marks;
}

abbrev ended : ℕ → ℕ → Window → List ℕ → Flags → Option ℕ → List (List ℕ) → List Slot → List ℕ → Tables × List ℕ → Result ImageOf Fault
ended end version w registers flags address conditions slots words tables =
    cond (eqb (length tables.1) 0) (Ok (made version w registers flags address conditions slots words tables.0)) (Err (4, place end tables.1))

abbrev after_words : ℕ → ℕ → Window → List ℕ → Flags → Option ℕ → List (List ℕ) → List Slot → List ℕ × List ℕ → Result ImageOf Fault
after_words end version w registers flags address conditions slots words =
    tables_at version end w words.1 >>= ended end version w registers flags address conditions slots words.0

abbrev after_slots : ℕ → ℕ → Window → List ℕ → Flags → Option ℕ → List (List ℕ) → List Slot × List ℕ → Result ImageOf Fault
after_slots end version w registers flags address conditions slots =
    words_at end w slots.1 >>= after_words end version w registers flags address conditions slots.0

abbrev after_conditions : ℕ → ℕ → Window → List ℕ → Flags → Option ℕ → List (List ℕ) × List ℕ → Result ImageOf Fault
after_conditions end version w registers flags address conditions =
    slots_at end w conditions.1 >>= after_slots end version w registers flags address conditions.0

abbrev after_address : ℕ → ℕ → Window → List ℕ → Flags → Option ℕ × List ℕ → Result ImageOf Fault
after_address end version w registers flags address =
    conditions_at (most_conditions version) end address.1 >>= after_conditions end version w registers flags address.0

abbrev after_flags : ℕ → ℕ → Window → List ℕ → Flags × List ℕ → Result ImageOf Fault
after_flags end version w registers flags = condition_address_at end w flags.1 >>= after_address end version w registers flags.0

abbrev after_registers : ℕ → ℕ → Window → List ℕ × List ℕ → Result ImageOf Fault
after_registers end version w registers = flags_at end registers.1 >>= after_flags end version w registers.0

abbrev after_window : ℕ → ℕ → Window × List ℕ → Result ImageOf Fault
after_window end version w = numbers_at end 16 w.1 >>= after_registers end version w.0

abbrev after_opening : ℕ → ℕ × List ℕ → Result ImageOf Fault
after_opening end version = window_at end version.1 >>= after_window end version.0

few_conditions : (one : Bool) → cond one 200 201 < 2 ^ 32
few_conditions true = omega arith
few_conditions false = omega arith

all_conditions_reads : (version end : ℕ) → Reads (conditions_at (most_conditions version) end) (counted_bytes name_bytes)
    (λ names. is_count (most_conditions version) (length names) && all_after is_condition [] names)
all_conditions_reads version end = conditions_reads (most_conditions version) end (few_conditions (eqb version 1))

-- ---- the two laws

record Read (bytes : List ℕ) (image : ImageOf) : Type 0 where
  limits : Limits image
  registers : are_words image.registers ≡ true
  words : are_words image.words ≡ true
  fields : bytes ≡ spelling image

-- the fields behind the conditions
record Rest (version : ℕ) (w : Window) (registers : List ℕ) (flags : Flags) (address : Option ℕ) (conditions : List (List ℕ)) (left : List ℕ)
    (image : ImageOf) : Type 0 where
  slots : List Slot
  words : List ℕ
  tables : Tables
  is : made version w registers flags address conditions slots words tables ≡ image
  slots_fit : (is_count 200 (length slots) && all_after (is_slot w) [] slots) ≡ true
  words_fit : (is_count w.size (length words) && all_after is_number [] words) ≡ true
  tables_fit : is_tables version w tables ≡ true
  text : left ≡ counted_bytes slot_bytes slots ++ counted_bytes number_bytes words ++ tables_bytes version tables

rest_takes : (end version : ℕ) (w : Window) (registers : List ℕ) (flags : Flags) (address : Option ℕ) (conditions : List (List ℕ)) (left : List ℕ)
    (image : ImageOf) → is_window w ≡ true → IsBytes left
    → after_conditions end version w registers flags address (conditions, left) ≡ Ok image → Rest version w registers flags address conditions left image
rest_takes end version w registers flags address conditions left image sized ok e =
    let a = bind_ok (slots_at end w left) (after_slots end version w registers flags address conditions) image e in
    let b = bind_ok (words_at end w a.0.1) (after_words end version w registers flags address conditions a.0.0) image a.2 in
    let c = bind_ok (tables_at version end w b.0.1) (ended end version w registers flags address conditions a.0.0 b.0.0) image b.2 in
    let g = guard_passed (eqb (length c.0.1) 0) (4, place end c.0.1) (made version w registers flags address conditions a.0.0 b.0.0 c.0.0) image c.2 in
    let t = (slots_reads end w sized).takes left a.0.0 a.0.1 ok a.1 in
    let u = (words_reads end w sized).takes a.0.1 b.0.0 b.0.1 t.0.rest_fits b.1 in
    let v = (tables_reads version end w sized).takes b.0.1 c.0.0 c.0.1 u.0.rest_fits c.1 in
    let nothing : c.0.1 ≡ [] = nil_from_length c.0.1 (eqb-true _ _ g.0) in
    let all : List ℕ = counted_bytes slot_bytes a.0.0 ++ counted_bytes number_bytes b.0.0 ++ tables_bytes version c.0.0 in
    let took = Took-then left (counted_bytes slot_bytes a.0.0 ++ counted_bytes number_bytes b.0.0) b.0.1 (tables_bytes version c.0.0) c.0.1
    (Took-then left (counted_bytes slot_bytes a.0.0) a.0.1 (counted_bytes number_bytes b.0.0) b.0.1 t.0 u.0) v.0 in
    record {
      slots = a.0.0;
      words = b.0.0;
      tables = c.0.0;
      is = g.1;
      slots_fit = t.1;
      words_fit = u.1;
      tables_fit = v.1;
      text = took.parts ∙ ap (λ (r : List ℕ). all ++ r) nothing ∙ append-nil all;
    }

grouped : (x a b c : List ℕ) → x ++ (a ++ b ++ c) ≡ x ++ a ++ b ++ c
grouped x a b c = sym (append_assoc x (a ++ b) c) ∙ ap (λ (t : List ℕ). t ++ c) (sym (append_assoc x a b))

-- all fields, from those before the conditions' end and those behind it
whole_read : (bytes : List ℕ) (version : ℕ) (w : Window) (registers : List ℕ) (flags : Flags) (address : Option ℕ) (conditions : List (List ℕ))
    (left : List ℕ) (image : ImageOf)
    → is_version version ≡ true → is_window w ≡ true → length registers ≡ 16 → all_after is_number [] registers ≡ true → is_condition_address w address ≡ true
    → (is_count (most_conditions version) (length conditions) && all_after is_condition [] conditions) ≡ true
    → bytes ≡ (opening_bytes version ++ window_bytes w ++ numbers_bytes registers ++ flags_bytes flags ++ condition_address_bytes address
    ++ counted_bytes name_bytes conditions) ++ left
    → Rest version w registers flags address conditions left image → Read bytes image
unfolding spelling
whole_read bytes version w registers flags address conditions left image is sized count numbers inside named text r =
    let p = and_parts (is_count (most_conditions version) (length conditions)) (all_after is_condition [] conditions) named in
    let q = and_parts (is_count 200 (length r.slots)) (all_after (is_slot w) [] r.slots) r.slots_fit in
    let k = and_parts (is_count w.size (length r.words)) (all_after is_number [] r.words) r.words_fit in
    let front : List ℕ = opening_bytes version ++ window_bytes w ++ numbers_bytes registers ++ flags_bytes flags ++ condition_address_bytes address
    ++ counted_bytes name_bytes conditions in
    subst (λ (i : ImageOf). Read bytes i) r.is (record {
      limits = record {
        version = is;
        window = sized;
        registers = eq-eqb _ _ count;
        condition_address = inside;
        condition_count = p.0;
        conditions = p.1;
        slot_count = q.0;
        slots = q.1;
        words = k.0;
        tables = r.tables_fit;
      };
      registers = sym (words_same [] registers) ∙ numbers;
      words = sym (words_same [] r.words) ∙ k.1;
      fields = text ∙ ap (λ (t : List ℕ). front ++ t) r.text ∙ grouped front (counted_bytes slot_bytes r.slots) (counted_bytes number_bytes r.words)
          (tables_bytes version r.tables);
    })

image_takes : (end : ℕ) (bytes : List ℕ) (image : ImageOf) → IsBytes bytes → image_at end bytes ≡ Ok image → Read bytes image
unfolding image_at
image_takes end bytes image ok e =
    let b0 = bind_ok (opening_at end bytes) (after_opening end) image e in
    let b1 = bind_ok (window_at end b0.0.1) (after_window end b0.0.0) image b0.2 in
    let b2 = bind_ok (numbers_at end 16 b1.0.1) (after_registers end b0.0.0 b1.0.0) image b1.2 in
    let b3 = bind_ok (flags_at end b2.0.1) (after_flags end b0.0.0 b1.0.0 b2.0.0) image b2.2 in
    let b4 = bind_ok (condition_address_at end b1.0.0 b3.0.1) (after_address end b0.0.0 b1.0.0 b2.0.0 b3.0.0) image b3.2 in
    let b5 = bind_ok (conditions_at (most_conditions b0.0.0) end b4.0.1) (after_conditions end b0.0.0 b1.0.0 b2.0.0 b3.0.0 b4.0.0) image b4.2 in
    let t0 = (opening_reads end).takes bytes b0.0.0 b0.0.1 ok b0.1 in
    let t1 = (window_reads end).takes b0.0.1 b1.0.0 b1.0.1 t0.0.rest_fits b1.1 in
    let t2 = items_take (λ earlier. number_at end) number_bytes is_number (λ earlier. number_reads end) 16 [] b1.0.1 b2.0.0 b2.0.1 t1.0.rest_fits b2.1 in
    let t3 = (flags_reads end).takes b2.0.1 b3.0.0 b3.0.1 t2.took.rest_fits b3.1 in
    let t4 = (address_reads end b1.0.0 t1.1).takes b3.0.1 b4.0.0 b4.0.1 t3.0.rest_fits b4.1 in
    let t5 = (all_conditions_reads b0.0.0 end).takes b4.0.1 b5.0.0 b5.0.1 t4.0.rest_fits b5.1 in
    let took2 : Took b1.0.1 (numbers_bytes b2.0.0) b2.0.1 = subst (λ (xs : List ℕ). Took b1.0.1 (numbers_bytes xs) b2.0.1) (sym t2.all_are) t2.took in
    let fit2 : all_after is_number [] b2.0.0 ≡ true = subst (λ (xs : List ℕ). all_after is_number [] xs ≡ true) (sym t2.all_are) t2.fit in
    let count2 : length b2.0.0 ≡ 16 = ap length t2.all_are ∙ t2.count_is in
    let s1 = Took-then bytes (opening_bytes b0.0.0) b0.0.1 (window_bytes b1.0.0) b1.0.1 t0.0 t1.0 in
    let s2 = Took-then bytes _ b1.0.1 (numbers_bytes b2.0.0) b2.0.1 s1 took2 in
    let s3 = Took-then bytes _ b2.0.1 (flags_bytes b3.0.0) b3.0.1 s2 t3.0 in
    let s4 = Took-then bytes _ b3.0.1 (condition_address_bytes b4.0.0) b4.0.1 s3 t4.0 in
    let s5 = Took-then bytes _ b4.0.1 (counted_bytes name_bytes b5.0.0) b5.0.1 s4 t5.0 in
    whole_read bytes b0.0.0 b1.0.0 b2.0.0 b3.0.0 b4.0.0 b5.0.0 b5.0.1 image t0.1 t1.1 count2 fit2 t4.1 t5.1 s5.parts
    (rest_takes end b0.0.0 b1.0.0 b2.0.0 b3.0.0 b4.0.0 b5.0.0 b5.0.1 image t1.1 t5.0.rest_fits b5.2)

regrouped : (a b c d e f g h k : List ℕ) → a ++ b ++ c ++ d ++ e ++ f ++ g ++ h ++ k ≡ a ++ (b ++ (c ++ (d ++ (e ++ (f ++ (g ++ (h ++ (k ++ []))))))))
regrouped a b c d e f g h k = simp (append_assoc, append-nil)

image_again : (end : ℕ) (image : ImageOf) → Limits image → are_words image.registers ≡ true → are_words image.words ≡ true
    → image_at end (spelling image) ≡ Ok image
unfolding image_at spelling
image_again end i l registers words =
    let w = window_of i in
    let v = i.version in
    let r8 : List ℕ = tables_bytes i.version (tables_of i) ++ [] in
    let r7 : List ℕ = counted_bytes number_bytes i.words ++ (tables_bytes i.version (tables_of i) ++ []) in
    let r6 : List ℕ = counted_bytes slot_bytes i.slots ++ (counted_bytes number_bytes i.words ++ (tables_bytes i.version (tables_of i) ++ [])) in
    let count : length i.registers ≡ 16 = eqb-true _ _ l.registers in
    let numbers : numbers_at end 16 (numbers_bytes i.registers
    ++ (flags_bytes i.flags ++ (condition_address_bytes i.condition_address ++ (counted_bytes name_bytes i.conditions ++ r6))))
    ≡ Ok (i.registers, flags_bytes i.flags ++ (condition_address_bytes i.condition_address ++ (counted_bytes name_bytes i.conditions ++ r6))) =
    ap (λ n. numbers_at end n (numbers_bytes i.registers
    ++ (flags_bytes i.flags ++ (condition_address_bytes i.condition_address ++ (counted_bytes name_bytes i.conditions ++ r6))))) (sym count)
    ∙ items_again (λ earlier. number_at end) number_bytes is_number (λ earlier. number_reads end) i.registers []
    (flags_bytes i.flags ++ (condition_address_bytes i.condition_address ++ (counted_bytes name_bytes i.conditions ++ r6)))
    (words_same [] i.registers ∙ registers) in
    ap (image_at end) (regrouped (opening_bytes i.version) (window_bytes w) (numbers_bytes i.registers) (flags_bytes i.flags)
    (condition_address_bytes i.condition_address) (counted_bytes name_bytes i.conditions) (counted_bytes slot_bytes i.slots)
    (counted_bytes number_bytes i.words) (tables_bytes i.version (tables_of i)))
    ∙ bind_at _ (after_opening end) (
      i.version,
      window_bytes w
          ++ (numbers_bytes i.registers ++ (flags_bytes i.flags
          ++ (condition_address_bytes i.condition_address ++ (counted_bytes name_bytes i.conditions ++ r6)))),
    )
    ((opening_reads end).again i.version _ l.version)
    ∙ bind_at _ (after_window end i.version) (
      w,
      numbers_bytes i.registers ++ (flags_bytes i.flags
          ++ (condition_address_bytes i.condition_address ++ (counted_bytes name_bytes i.conditions ++ r6))),
    ) ((window_reads end).again w _ l.window)
    ∙ bind_at _ (after_registers end i.version w)
    (i.registers, flags_bytes i.flags ++ (condition_address_bytes i.condition_address ++ (counted_bytes name_bytes i.conditions ++ r6))) numbers
    ∙ bind_at _ (after_flags end i.version w i.registers)
    (i.flags, condition_address_bytes i.condition_address ++ (counted_bytes name_bytes i.conditions ++ r6)) ((flags_reads end).again i.flags _ refl)
    ∙ bind_at _ (after_address end i.version w i.registers i.flags) (i.condition_address, counted_bytes name_bytes i.conditions ++ r6)
    ((address_reads end w l.window).again i.condition_address _ l.condition_address)
    ∙ bind_at _ (after_conditions end i.version w i.registers i.flags i.condition_address) (i.conditions, r6)
    ((all_conditions_reads i.version end).again i.conditions _ (and_from _ _ l.condition_count l.conditions))
    ∙ bind_at _ (after_slots end i.version w i.registers i.flags i.condition_address i.conditions) (i.slots, r7)
    ((slots_reads end w l.window).again i.slots _ (and_from _ _ l.slot_count l.slots))
    ∙ bind_at _ (after_words end i.version w i.registers i.flags i.condition_address i.conditions i.slots) (i.words, r8)
    ((words_reads end w l.window).again i.words _ (and_from _ _ l.words (words_same [] i.words ∙ words)))
    ∙ bind_at _ (ended end i.version w i.registers i.flags i.condition_address i.conditions i.slots i.words) (tables_of i, [])
    ((tables_reads i.version end w l.window).again (tables_of i) [] l.tables)

-- What is read is spelled so.
pub read_spells : (bytes : List ℕ) (image : ImageOf) → IsBytes bytes → read_of bytes ≡ Ok image → Spelled bytes image
read_spells bytes image ok e =
    let r = image_takes (length bytes) bytes image ok e in
    record { limits = from_limits image r.limits; registers = r.registers; words = r.words; fields = r.fields }

-- What is spelled so is read.
pub spelled_reads : (bytes : List ℕ) (image : ImageOf) → Spelled bytes image → read_of bytes ≡ Ok image
spelled_reads bytes image s = ap (image_at (length bytes)) s.fields ∙ image_again (length bytes) image (limits_of image s.limits) s.registers s.words

-- A file spells at most one image.
pub one_image : (bytes : List ℕ) (i j : ImageOf) → Spelled bytes i → Spelled bytes j → i ≡ j
one_image bytes i j s t = ok_is i j (sym (spelled_reads bytes i s) ∙ spelled_reads bytes j t)

-- An image has at most one spelling.
pub one_spelling : (a b : List ℕ) (image : ImageOf) → Spelled a image → Spelled b image → a ≡ b
one_spelling a b image s t = s.fields ∙ sym t.fields

-- The limits hold of what was read.
pub limits_hold : (end : ℕ) (bytes : List ℕ) (image : ImageOf) → IsBytes bytes → image_at end bytes ≡ Ok image → IsTrue (is_image image)
limits_hold end bytes image ok e = from_limits image (image_takes end bytes image ok e).limits

pub is_found : (R : Type 0) (bytes : List ℕ) (r : Result ImageOf ImageFault) → IsBytes bytes → GivesImageUnless R (λ image. image) r (read_of bytes)
    → IfOk r (λ image. Spelled bytes image)
is_found R bytes (Ok image) ok given = read_spells bytes image ok given
is_found R bytes (Err e) ok given = tt

pub tells : (R : Type 0) (bytes : List ℕ) (r : Result ImageOf ImageFault) → GivesImageUnless R (λ image. image) r (read_of bytes) → ReportsFault bytes r
tells R bytes (Ok image) given = ap error_of given
tells R bytes (Err (Refused rule place)) given = ap error_of given
tells R bytes (Err Memory) given = tt

pub is_read_again : (image : ImageOf) → IsTrue (is_image image) → IsTrue (are_words image.registers) → IsTrue (are_words image.words)
    → read_of (spelling image) ≡ Ok image
is_read_again image limits registers words =
    spelled_reads (spelling image) image (record { limits = limits; registers = registers; words = words; fields = refl })

-- The limits hold of the fields that were read one after the other.
pub fields_hold : (end : ℕ) (bytes : List ℕ) (o : ℕ × List ℕ) (w : Window × List ℕ) (registers : List ℕ × List ℕ) (flags : Flags × List ℕ)
    (address : Option ℕ × List ℕ) (conditions : List (List ℕ) × List ℕ) (slots : List Slot × List ℕ) (words : List ℕ × List ℕ)
    (tables : Tables × List ℕ)
    → IsBytes bytes → opening_at end bytes ≡ Ok o → window_at end o.1 ≡ Ok w → numbers_at end 16 w.1 ≡ Ok registers
    → flags_at end registers.1 ≡ Ok flags → condition_address_at end w.0 flags.1 ≡ Ok address
    → conditions_at (most_conditions o.0) end address.1 ≡ Ok conditions → slots_at end w.0 conditions.1 ≡ Ok slots → words_at end w.0 slots.1 ≡ Ok words
    → tables_at o.0 end w.0 words.1 ≡ Ok tables → length tables.1 ≡ 0
    → IsTrue (is_image (made o.0 w.0 registers.0 flags.0 address.0 conditions.0 slots.0 words.0 tables.0))
unfolding image_at
fields_hold end bytes o w registers flags address conditions slots words tables ok e0 e1 e2 e3 e4 e5 e6 e7 e8 nothing =
    let empty : eqb (length tables.1) 0 ≡ true = eq-eqb _ _ nothing in
    let read : image_at end bytes ≡ Ok (made o.0 w.0 registers.0 flags.0 address.0 conditions.0 slots.0 words.0 tables.0) =
    bind_at _ (after_opening end) o e0
    ∙ bind_at _ (after_window end o.0) w e1
    ∙ bind_at _ (after_registers end o.0 w.0) registers e2
    ∙ bind_at _ (after_flags end o.0 w.0 registers.0) flags e3
    ∙ bind_at _ (after_address end o.0 w.0 registers.0 flags.0) address e4
    ∙ bind_at _ (after_conditions end o.0 w.0 registers.0 flags.0 address.0) conditions e5
    ∙ bind_at _ (after_slots end o.0 w.0 registers.0 flags.0 address.0 conditions.0) slots e6
    ∙ bind_at _ (after_words end o.0 w.0 registers.0 flags.0 address.0 conditions.0 slots.0) words e7
    ∙ bind_at _ (ended end o.0 w.0 registers.0 flags.0 address.0 conditions.0 slots.0 words.0) tables e8
    ∙ ap (λ (b : Bool). cond b (Ok (made o.0 w.0 registers.0 flags.0 address.0 conditions.0 slots.0 words.0 tables.0)) (Err (4, place end tables.1))) empty in
    limits_hold end bytes (made o.0 w.0 registers.0 flags.0 address.0 conditions.0 slots.0 words.0 tables.0) ok read
