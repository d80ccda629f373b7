-- A loaded machine has words of 32 bits.
use Rattle.std.{proofs.Common.{◌≡◌, ℕ, zero, suc, ◌+◌, ◌-◌, ◌^◌, true, ℤ, List, [], ◌∷◌, arith}, specs.Prelude.{nat_lt, replicate}, specs.List.list_all}
use Rattle.std.proofs.lemmas.Bool.{and_parts, ltb-true}
use Rattle.stack_text.{specs.declared.shape.Shape.Shape, specs.Values.ValueOf}
use Rattle.fm_words.{specs.Word.{is_int, word_of_int}, proofs.WordLaws.word_of_int_below}
use Rattle.fm_image.{specs.declared.slot.Slot.Slot, specs.Image.ImageOf, specs.Spelling.are_words}
use Rattle.fm_loader.specs.Loaded.{loaded, with_words, with_items, with_values}
use Rattle.fm_circuit.{specs.Following.{AreWords, HasWords}, proofs.WordsLaws.words_with}
use Rattle.gypsy_syntax.{specs.Sources.SourceOf, specs.Resolved.program_of, specs.Programs.proc_at, specs.ValuesFit.VarsFit}
use Rattle.stack_build.{specs.Implements.FitsFormals, proofs.ReadBack.items_fit}

words_from : (xs : List ℕ) → are_words xs ≡ true → AreWords xs
words_from [] h i = omega arith
words_from (x ∷ xs) h zero = ltb-true x (2 ^ 32) (and_parts (nat_lt x (2 ^ 32)) (are_words xs) h).0
words_from (x ∷ xs) h (suc i) = words_from xs (and_parts (nat_lt x (2 ^ 32)) (are_words xs) h).1 i

zeros : (n : ℕ) → AreWords (replicate n 0)
zeros zero i = omega arith
zeros (suc n) zero = omega arith
zeros (suc n) (suc i) = zeros n i

with_words_are : (base address : ℕ) (ws m : List ℕ) → are_words ws ≡ true → AreWords m → AreWords (with_words base address ws m)
with_words_are base address [] m h good = good
with_words_are base address (w ∷ ws) m h good =
    let parts = and_parts (nat_lt w (2 ^ 32)) (are_words ws) h in
    with_words_are base (address + 1) ws _ parts.1 (words_with base m address w good (ltb-true w (2 ^ 32) parts.0))

with_items_are : (base address : ℕ) (items : List ℤ) (m : List ℕ) → list_all is_int items ≡ true → AreWords m → AreWords (with_items base address items m)
with_items_are base address [] m h good = good
with_items_are base address (z ∷ items) m h good =
    let parts = and_parts (is_int z) (list_all is_int items) h in
    with_items_are base (address - 1) items _ parts.1 (words_with base m address (word_of_int z) good (word_of_int_below z parts.0))

with_values_are : (base : ℕ) (slots : List Slot) (shapes : List Shape) (values : List ValueOf) (m : List ℕ) → VarsFit shapes values → AreWords m
    → AreWords (with_values base slots values m)
with_values_are base [] shapes values m fits good = good
with_values_are base (slot ∷ slots) shapes [] m fits good = good
with_values_are base (slot ∷ slots) [] (v ∷ values) m fits good = absurd fits
with_values_are base (slot ∷ slots) (s ∷ shapes) (v ∷ values) m fits good =
    with_values_are base slots shapes values _ fits.2 (with_items_are base slot.address v.items m (items_fit v.shape.kind v.items fits.1.items).1 good)

-- the loaded machine
pub loaded_words : (image : ImageOf) (source : SourceOf) (values : List ValueOf) → are_words image.registers ≡ true → are_words image.words ≡ true
    → FitsFormals source values → HasWords (loaded image values)
loaded_words image source values r w fits =
    record {
      registers = words_from image.registers r;
      memory = with_values_are image.base image.slots (proc_at (program_of source) (program_of source).main).formals values _ fits
          (with_words_are image.base image.base image.words _ w (zeros image.size));
    }
