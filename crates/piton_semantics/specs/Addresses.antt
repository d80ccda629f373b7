-- Where the parts of a system stand in memory, and the number of a word there.
use Rattle.std.specs.{Int.{from_bool as bit_of}, Prelude.{ℕ, ◌+◌, List, map}}
use Rattle.fm_words.specs.Word.{word_of_int}
use Rattle.fm_code.specs.Execution.{Parts}
use Rattle.piton_words.specs.{declared.word.Word.{Word}, declared.word.Word.TheVariants.{Int, Nat, Bitv, Bool as Truth, Addr, Pc, Subr}}

-- The first address; those of an instruction's code, of a program's prelude and of an area; the one where the program has
-- ended; those where the areas, the control stack and the temporary stack begin; and the end of the temporary stack.
pub record Addresses : Type 0 where
  pub base : ℕ
  pub place_at : (program place : ℕ) → ℕ
  pub entry_at : (program : ℕ) → ℕ
  pub area_at : (area : ℕ) → ℕ
  pub final_pc : ℕ
  pub areas_at : ℕ
  pub ctrl_at : ℕ
  pub temp_at : ℕ
  pub end : ℕ

-- the parts of the memory, with this code
abbrev pub parts_with : Addresses → List ℕ → Parts
parts_with A code = record {
  base = A.base;
  code = code;
  areas_at = A.areas_at;
  ctrl_at = A.ctrl_at;
  temp_at = A.temp_at;
  end = A.end;
}

-- the number of a word
abbrev pub word_number : Addresses → Word → ℕ
word_number A (Int number) = word_of_int number
word_number A (Nat number) = number
word_number A (Bitv bits) = bits
word_number A (Truth truth) = bit_of truth
word_number A (Addr area offset) = A.area_at area + offset
word_number A (Pc program place) = A.place_at program place
word_number A (Subr program) = A.entry_at program

abbrev pub numbers : Addresses → List Word → List ℕ
numbers A words = map (word_number A) words
