-- The result of an operation, its carry and its overflow, as the circuit has them.
use Rattle.std.{proofs.Common.{◌≡◌, ℕ, ◌+◌, ◌-◌, ◌/◌, ◌%◌, ◌^◌, ◌<◌, Bool, not, List, arith, refl, ap, ◌∙◌}, proofs.lemmas.Nat.{and_le_l, or_of_32, xor_of_32}}
use Rattle.std.specs.Int.{from_bool as bit_of}
use Rattle.fm_words.{specs.declared.condition.Flags.Flags, specs.declared.operation.Op.Op, specs.declared.operation.Op.TheVariants.{Move, Inc, Addc, Add, Neg}}
use Rattle.fm_words.{specs.declared.operation.Op.TheVariants.{Dec, Subb, Sub, Ror, Asr, Lsr, Xor, Or, And, Not, M15}, specs.Alu.alu_of}
use Rattle.fm_words.{specs.Encoding.op_number, proofs.FlagsLaws.bit_small}
use Rattle.fm_circuit.specs.declared.wire.Wire.TheVariants as w
use Rattle.fm_circuit.{specs.Circuit.settled, specs.Processor.driver_of, specs.Phases.execute, specs.Board.{on_board, board_of}, proofs.AdderLaws.not_bit}
use Rattle.fm_circuit.proofs.AdderLaws.{overflow_bit, turned_addc, turned_add, turned_inc, turned_neg, turned_dec, turned_subb, turned_sub, carry_bit}
use Rattle.fm_circuit.proofs.AdderLaws.{borrow_bit, carries_inc, carries_add, borrows_neg, borrows_dec, borrows_subb, borrows_sub, word_subb, lowest}

-- a result has 32 bits
pub result_below : (op : Op) (c : Bool) (a b : ℕ) → a < 2 ^ 32 → b < 2 ^ 32 → (alu_of op c a b).word < 2 ^ 32
result_below Move c a b p q = p
result_below Inc c a b p q = omega arith
result_below Addc c a b p q = omega arith
result_below Add c a b p q = omega arith
result_below Neg c a b p q = omega arith
result_below Dec c a b p q = omega arith
result_below Subb c a b p q = omega arith
result_below Sub c a b p q = omega arith
result_below Ror c a b p q = omega (arith, bit_small c)
result_below Asr c a b p q = omega arith
result_below Lsr c a b p q = omega arith
result_below Xor c a b p q = xor_of_32 a b p q
result_below Or c a b p q = or_of_32 a b p q
result_below And c a b p q = omega (arith, and_le_l a b)
result_below Not c a b p q = omega arith
result_below M15 c a b p q = p

module _ (ir a b at : ℕ) (f : Flags) (rs : List ℕ) (read outside base : ℕ) (m : List ℕ) where
  -- what the three wires are to be
  pub record Result (op : Op) : Type 0 where
    pub word : on_board (board_of execute ir a b at f rs read outside base m) w.Out ≡ (alu_of op f.c a b).word
    pub carry : on_board (board_of execute ir a b at f rs read outside base m) w.OutC ≡ bit_of (alu_of op f.c a b).c
    pub overflow : on_board (board_of execute ir a b at f rs read outside base m) w.OutV ≡ bit_of (alu_of op f.c a b).v

  by_op : (op : Op) → a < 2 ^ 32 → b < 2 ^ 32 → ir / 2 ^ 24 % 16 ≡ op_number op → ir / 2 ^ 24 % 8 ≡ op_number op % 8
      → ir / 2 ^ 26 % 2 ≡ op_number op / 4 % 2 → Result op
  unfolding settled driver_of
  by_op Move p q e g h = record { word = rw e; carry = rw e; overflow = rw e }
  by_op Inc p q e g h = record {
    word = rw (e, g) (omega arith);
    carry = rw (e, g, h) (carry_bit (a + 0 + 1) _ (omega arith) (carries_inc a));
    overflow = rw (e, g) (overflow_bit a 0 (a + 0 + 1) p (omega arith) ∙ ap bit_of (turned_inc a p));
  }
  by_op Addc p q e g h = record {
    word = rw (e, g);
    carry = rw (e, g, h) (carry_bit (a + b + bit_of f.c) _ (omega (arith, bit_small f.c)) refl);
    overflow = rw (e, g) (overflow_bit a b (a + b + bit_of f.c) p q ∙ ap bit_of (turned_addc a b f.c p q));
  }
  by_op Add p q e g h = record {
    word = rw (e, g) (omega arith);
    carry = rw (e, g, h) (carry_bit (a + b + 0) _ (omega arith) (carries_add a b));
    overflow = rw (e, g) (overflow_bit a b (a + b + 0) p q ∙ ap bit_of (turned_add a b p q));
  }
  by_op Neg p q e g h = record {
    word = rw (e, g) (omega arith);
    carry = rw (e, g, h) (borrow_bit (2 ^ 32 - 1 - a + 0 + 1) _ (omega arith) (borrows_neg a p));
    overflow = rw (e, g) (overflow_bit (2 ^ 32 - 1 - a) 0 (2 ^ 32 - 1 - a + 0 + 1) (omega arith) (omega arith) ∙ ap bit_of (turned_neg a p));
  }
  by_op Dec p q e g h = record {
    word = rw (e, g) (omega arith);
    carry = rw (e, g, h) (borrow_bit (a + (2 ^ 32 - 1) + 0) _ (omega arith) (borrows_dec a));
    overflow = rw (e, g) (overflow_bit a (2 ^ 32 - 1) (a + (2 ^ 32 - 1) + 0) p (omega arith) ∙ ap bit_of (turned_dec a p));
  }
  by_op Subb p q e g h = record {
    word = rw (e, g, not_bit f.c) (word_subb a b f.c p);
    carry = rw (e, g, h, not_bit f.c) (borrow_bit (2 ^ 32 - 1 - a + b + bit_of (not f.c)) _ (omega (arith, bit_small (not f.c))) (borrows_subb a b f.c p));
    overflow = rw (e, g, not_bit f.c) (overflow_bit (2 ^ 32 - 1 - a) b (2 ^ 32 - 1 - a + b + bit_of (not f.c)) (omega arith) q
        ∙ ap bit_of (turned_subb a b f.c p q));
  }
  by_op Sub p q e g h = record {
    word = rw (e, g) (omega arith);
    carry = rw (e, g, h) (borrow_bit (2 ^ 32 - 1 - a + b + 1) _ (omega arith) (borrows_sub a b p));
    overflow = rw (e, g) (overflow_bit (2 ^ 32 - 1 - a) b (2 ^ 32 - 1 - a + b + 1) (omega arith) q ∙ ap bit_of (turned_sub a b p q));
  }
  by_op Ror p q e g h = record { word = rw e (omega arith); carry = rw e (lowest a); overflow = rw e }
  by_op Asr p q e g h = record { word = rw e (omega arith); carry = rw e (lowest a); overflow = rw e }
  by_op Lsr p q e g h = record { word = rw e (omega arith); carry = rw e (lowest a); overflow = rw e }
  by_op Xor p q e g h = record { word = rw e; carry = rw e; overflow = rw e }
  by_op Or p q e g h = record { word = rw e; carry = rw e; overflow = rw e }
  by_op And p q e g h = record { word = rw e; carry = rw e; overflow = rw e }
  by_op Not p q e g h = record { word = rw e; carry = rw e; overflow = rw e }
  by_op M15 p q e g h = record { word = rw e; carry = rw e; overflow = rw e }

  pub result : (op : Op) → a < 2 ^ 32 → b < 2 ^ 32 → ir / 2 ^ 24 % 16 ≡ op_number op → Result op
  result op p q e = by_op op p q e (omega (arith, e)) (omega (arith, e))
