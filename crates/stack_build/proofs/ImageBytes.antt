-- How many bytes the file of a system's image has, and that it spells the image.
use Rattle.std.{proofs.Common.{◌≡◌, ◌≤◌, ◌+◌, ◌-◌, ◌*◌, ◌&&◌, ℕ, List, [], ◌∷◌, ◌++◌, length, map, leb, true, refl, arith, length-append}, specs.Prelude.◌^◌}
use Rattle.std.{specs.Prelude.IsTrue, specs.List.flat_map, proofs.lemmas.Bool.and_parts}
use Rattle.stack_text.{specs.Names.is_name, proofs.SharedLaws.name_few}
use Rattle.fm_image.{specs.declared.slot.Slot.Slot, specs.declared.window.Window.Window, specs.Image.ImageOf, specs.Limits.{Tables, tables_of, window_of}}
use Rattle.fm_image.{specs.Limits.{is_new, is_condition, is_slot, is_slot_address, are_tables, all_after, is_image}, specs.Spelling.number_bytes}
use Rattle.fm_image.specs.Spelling.{numbers_bytes, name_bytes, counted_bytes, shape_bytes, slot_bytes, opening_bytes, window_bytes, flags_bytes}
use Rattle.fm_image.{specs.Spelling.{condition_address_bytes, tables_bytes, spelling, Spelled}, proofs.LimitLaws.{limits_of, sixteen, condition_count}}
use Rattle.fm_image.proofs.LimitLaws.{slot_count, word_count}
use Rattle.piton_check.{specs.Instruction.SystemView, specs.Sound.IsSound}
use Rattle.piton_semantics.specs.Placed.{placed}
use Rattle.gypsy_syntax.specs.declared.literal.Decl.{Decl}
use Rattle.stack_build.{specs.Image.image_with, specs.Internal.Showing.IsShowable, proofs.WordsLaws.{words-trimmed, placed_are_words, registers_are_words}}
use Rattle.stack_build.proofs.ImageLimits.{placed_window, system_fits}

length-numbers_bytes : (numbers : List ℕ) → length (numbers_bytes numbers) ≡ 4 * length numbers
length-numbers_bytes [] = refl
length-numbers_bytes (number ∷ numbers) = let rest = length-numbers_bytes numbers in omega arith

names_few : (earlier names : List (List ℕ)) → all_after is_condition earlier names ≡ true → length (flat_map name_bytes names) ≤ 68 * length names
unfolding all_after
names_few earlier [] h = omega arith
names_few earlier (name ∷ names) h =
    let p = and_parts (is_condition earlier name) (all_after is_condition (earlier ++ name ∷ []) names) h in
    let q = and_parts (is_name name) (is_new earlier name) p.0 in
    omega (arith, name_few name q.0, names_few (earlier ++ name ∷ []) names p.1, length-append (name_bytes name) (flat_map name_bytes names))

slot_few : (slot : Slot) → length slot.name ≤ 64 → length (slot_bytes slot) ≤ 80
slot_few slot few =
    omega (arith, length-append (slot.name ++ shape_bytes slot.shape) (number_bytes slot.address), length-append slot.name (shape_bytes slot.shape))

slots_few : (window : Window) (earlier slots : List Slot) → all_after (is_slot window) earlier slots ≡ true
    → length (flat_map slot_bytes slots) ≤ 80 * length slots
unfolding all_after
slots_few window earlier [] h = omega arith
slots_few window earlier (slot ∷ slots) h =
    let p = and_parts (is_slot window earlier slot) (all_after (is_slot window) (earlier ++ slot ∷ []) slots) h in
    let q = and_parts ((is_name slot.name && is_new (map (λ other. other.name) earlier) slot.name) && leb slot.shape.length 4096)
    (is_slot_address window slot.shape slot.address) p.0 in
    let r = and_parts (is_name slot.name && is_new (map (λ other. other.name) earlier) slot.name) (leb slot.shape.length 4096) q.0 in
    let t = and_parts (is_name slot.name) (is_new (map (λ other. other.name) earlier) slot.name) r.0 in
    omega (
      arith,
      slot_few slot (name_few slot.name t.0),
      slots_few window (earlier ++ slot ∷ []) slots p.1,
      length-append (slot_bytes slot) (flat_map slot_bytes slots),
    )

-- the bytes are few where the fields of variable length are
pub fields_few : (image : ImageOf) (conditions slots words tables : ℕ) → length image.registers ≡ 16
    → length (flat_map name_bytes image.conditions) ≤ conditions → length (flat_map slot_bytes image.slots) ≤ slots →
    length image.words ≤ words → length (tables_bytes image.version (tables_of image)) ≤ tables
    → length (spelling image) ≤ 104 + conditions + slots + 4 * words + tables
unfolding spelling
fields_few image conditions slots words tables sixteen c s w few =
    let o : List ℕ = opening_bytes image.version ++ window_bytes (window_of image) in
    let r : List ℕ = numbers_bytes image.registers in
    let f : List ℕ = flags_bytes image.flags in
    let a : List ℕ = condition_address_bytes image.condition_address in
    let n : List ℕ = counted_bytes name_bytes image.conditions in
    let slot_part : List ℕ = counted_bytes slot_bytes image.slots in
    let word_part : List ℕ = counted_bytes number_bytes image.words in
    let table_part : List ℕ = tables_bytes image.version (tables_of image) in
    let registers : length r ≡ 64 = let k = length-numbers_bytes image.registers in omega arith in
    let numbers : length (flat_map number_bytes image.words) ≡ 4 * length image.words = length-numbers_bytes image.words in
    omega (
      arith,
      few,
      length-append (o ++ r ++ f ++ a ++ n ++ slot_part ++ word_part) table_part,
      length-append (o ++ r ++ f ++ a ++ n ++ slot_part) word_part,
      length-append (o ++ r ++ f ++ a ++ n) slot_part,
      length-append (o ++ r ++ f ++ a) n,
      length-append (o ++ r ++ f) a,
      length-append (o ++ r) f,
      length-append o r,
    )

-- what stands before the procedures is short
pub file_few : (image : ImageOf) → IsTrue (is_image image) → length (spelling image) ≤ 4300000 + length (tables_bytes image.version (tables_of image))
file_few image h =
    let l = limits_of image h in
    let conditions = names_few [] image.conditions l.conditions in
    let slots = slots_few (window_of image) [] image.slots l.slots in
    let all = fields_few image (68 * 201) (80 * 200) 1048576 (length (tables_bytes image.version (tables_of image))) (sixteen image h)
    (omega (arith, conditions, condition_count image h)) (omega (arith, slots, slot_count image h)) (word_count image h) (omega arith) in
    omega (arith, all)

module _ (s : SystemView) (ds : List Decl) (conditions : List (List ℕ)) (tables : Tables) (sound : IsSound s) (small : (placed s).size ≤ 2 ^ 20)
    (shows : IsShowable s ds conditions)
    (fit : are_tables (placed_window s) tables ≡ true) where
  pub file_spells : Spelled (spelling (image_with ds conditions tables s)) (image_with ds conditions tables s)
  file_spells = record {
    limits = system_fits s ds conditions tables sound small shows fit;
    registers = registers_are_words s sound small;
    words = words-trimmed (placed s).words (placed_are_words s sound small);
    fields = refl;
  }
