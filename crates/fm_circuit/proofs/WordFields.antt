-- The fields of an instruction's word, as the circuit reads them.
use Rattle.std.{proofs.Common.{◌≡◌, ℕ, ◌+◌, ◌*◌, ◌/◌, ◌%◌, ◌^◌, ◌<◌, ◌≤◌, [], ◌∷◌, arith, refl, ap, ◌∙◌, ⊎_elim}, proofs.lemmas.Bool.cases_eq}
use Rattle.std.{proofs.lemmas.Bool.Decides.nat_tests, proofs.lemmas.Int.ints, specs.Prelude.slice_index, specs.Int.from_bool as bit_of}
use Rattle.fm_words.{specs.declared.operation.Op.Op, specs.declared.operation.Op.TheVariants.Move, specs.Word.word_of_int, specs.Code.{imm_of, flags_of}}
use Rattle.fm_words.specs.Encoding.{op_number}
use Rattle.fm_machine.specs.Step.{reads_b}

-- the operations that read their second operand, as a row of bits
by_op : (op : Op) → slice_index (0 ∷ 0 ∷ 1 ∷ 1 ∷ 0 ∷ 0 ∷ 1 ∷ 1 ∷ 0 ∷ 0 ∷ 0 ∷ 1 ∷ 1 ∷ 1 ∷ 0 ∷ 0 ∷ []) (op_number op) ≡ bit_of (reads_b op)
by_op Move = refl
by_op op = refl

pub reads_bit : (op : Op) (n : ℕ) → n ≡ op_number op → slice_index (0 ∷ 0 ∷ 1 ∷ 1 ∷ 0 ∷ 0 ∷ 1 ∷ 1 ∷ 0 ∷ 0 ∷ 0 ∷ 1 ∷ 1 ∷ 1 ∷ 0 ∷ 0 ∷ []) n ≡ bit_of (reads_b op)
reads_bit op n e = ap (λ k. slice_index (0 ∷ 0 ∷ 1 ∷ 1 ∷ 0 ∷ 0 ∷ 1 ∷ 1 ∷ 0 ∷ 0 ∷ 0 ∷ 1 ∷ 1 ∷ 1 ∷ 0 ∷ 0 ∷ []) k) e ∙ by_op op

-- the flags of the mask
pub set_c : (w : ℕ) → w / 2 ^ 19 % 2 ≡ bit_of (flags_of (w / 2 ^ 16 % 16)).c
set_c w = grind (arith, nat_tests)

pub set_v : (w : ℕ) → w / 2 ^ 18 % 2 ≡ bit_of (flags_of (w / 2 ^ 16 % 16)).v
set_v w = grind (arith, nat_tests)

pub set_n : (w : ℕ) → w / 2 ^ 17 % 2 ≡ bit_of (flags_of (w / 2 ^ 16 % 16)).n
set_n w = grind (arith, nat_tests)

pub set_z : (w : ℕ) → w / 2 ^ 16 % 2 ≡ bit_of (flags_of (w / 2 ^ 16 % 16)).z
set_z w = grind (arith, nat_tests)

-- an immediate, with its sign as 23 bits above it
pub immediate_word : (w : ℕ) → slice_index (0 ∷ 8388607 ∷ []) (w / 2 ^ 8 % 2) * 2 ^ 9 + w % 2 ^ 9 ≡ word_of_int (imm_of (w % 2 ^ 9))
immediate_word w = ⊎_elim (λ e. below e) (λ ne. above (omega arith)) (cases_eq (w / 2 ^ 8 % 2) 0)
  where
    below : w / 2 ^ 8 % 2 ≡ 0 → slice_index (0 ∷ 8388607 ∷ []) (w / 2 ^ 8 % 2) * 2 ^ 9 + w % 2 ^ 9 ≡ word_of_int (imm_of (w % 2 ^ 9))
    below e = rw e (small (w % 2 ^ 9) (omega arith))
      where
        small : (n : ℕ) → n < 256 → 0 * 2 ^ 9 + n ≡ word_of_int (imm_of n)
        small n h = grind (arith, nat_tests, ints)

    above : w / 2 ^ 8 % 2 ≡ 1 → slice_index (0 ∷ 8388607 ∷ []) (w / 2 ^ 8 % 2) * 2 ^ 9 + w % 2 ^ 9 ≡ word_of_int (imm_of (w % 2 ^ 9))
    above e = rw e (large (w % 2 ^ 9) (omega arith) (omega arith))
      where
        large : (n : ℕ) → 256 ≤ n → n < 512 → 8388607 * 2 ^ 9 + n ≡ word_of_int (imm_of n)
        large n h g = grind (arith, nat_tests, ints)
