-- The operations and the store conditions, as whole-number arithmetic.
use Rattle.std.specs.Prelude.{ℕ, ◌+◌, ◌-◌, ◌*◌, ◌/◌, ◌%◌, ◌^◌, ◌==◌, Bool, true, false, not, ◌&&◌, ◌||◌, nat_lt, nat_le, pos, ◌+ℤ◌, ◌-ℤ◌}
use Rattle.std.specs.{Prelude.{bit_and, bit_or, bit_xor}, Int.{from_bool as bit_of}}
use Rattle.fm_words.specs.{Word.{signed_of, is_int}, declared.operation.Op.{Op}, declared.operation.Op.TheVariants.{Move, Inc, Addc, Add}}
use Rattle.fm_words.specs.declared.operation.Op.TheVariants.{Neg, Dec, Subb, Sub, Ror, Asr, Lsr, Xor, Or, And, Not, M15}
use Rattle.fm_words.specs.{declared.condition.Cc.{Cc}, declared.operation.AluOut.{AluOut}, declared.condition.Flags.{Flags}}
use Rattle.fm_words.specs.declared.condition.Cc.TheVariants as cc

-- a result that sets neither carry nor overflow
abbrev pub plain : ℕ → AluOut
plain word = record { word = word; c = false; v = false }

-- the result, the carry and the overflow of each operation, on the carry flag c and the operands a and b
abbrev pub alu_of : Op → Bool → ℕ → ℕ → AluOut
alu_of Move c a b = plain a
alu_of Inc c a b =
    record { word = (a + 1) % 2 ^ 32; c = nat_le (2 ^ 32) (a + 1); v = not (is_int (signed_of a +ℤ pos 1)) }
alu_of Addc c a b =
    record {
      word = (a + b + bit_of c) % 2 ^ 32;
      c = nat_le (2 ^ 32) (a + b + bit_of c);
      v = not (is_int (signed_of a +ℤ signed_of b +ℤ pos (bit_of c)));
    }
alu_of Add c a b =
    record { word = (a + b) % 2 ^ 32; c = nat_le (2 ^ 32) (a + b); v = not (is_int (signed_of a +ℤ signed_of b)) }
alu_of Neg c a b = record { word = (2 ^ 32 - a) % 2 ^ 32; c = nat_lt 0 a; v = a == 2 ^ 31 }
alu_of Dec c a b =
    record { word = (a + 2 ^ 32 - 1) % 2 ^ 32; c = a == 0; v = not (is_int (signed_of a -ℤ pos 1)) }
alu_of Subb c a b =
    record {
      word = (b + 2 ^ 32 - (a + bit_of c)) % 2 ^ 32;
      c = nat_lt b (a + bit_of c);
      v = not (is_int (signed_of b -ℤ signed_of a -ℤ pos (bit_of c)));
    }
alu_of Sub c a b =
    record { word = (b + 2 ^ 32 - a) % 2 ^ 32; c = nat_lt b a; v = not (is_int (signed_of b -ℤ signed_of a)) }
alu_of Ror c a b = record { word = a / 2 + bit_of c * 2 ^ 31; c = a % 2 == 1; v = false }
alu_of Asr c a b = record { word = a / 2 + a / 2 ^ 31 * 2 ^ 31; c = a % 2 == 1; v = false }
alu_of Lsr c a b = record { word = a / 2; c = a % 2 == 1; v = false }
alu_of Xor c a b = plain (bit_xor a b)
alu_of Or c a b = plain (bit_or a b)
alu_of And c a b = plain (bit_and a b)
alu_of Not c a b = plain (2 ^ 32 - 1 - a)
alu_of M15 c a b = plain a

-- two truth values are one
abbrev pub are_same : Bool → Bool → Bool
are_same true b = b
are_same false b = not b

-- a store condition holds of the flags
abbrev pub does_hold : Cc → Flags → Bool
does_hold cc.Cc f = not f.c
does_hold cc.Cs f = f.c
does_hold cc.Vc f = not f.v
does_hold cc.Vs f = f.v
does_hold cc.Nc f = not f.n
does_hold cc.Ns f = f.n
does_hold cc.Zc f = not f.z
does_hold cc.Zs f = f.z
does_hold cc.Hi f = not f.c && not f.z
does_hold cc.Ls f = f.c || f.z
does_hold cc.Ge f = are_same f.n f.v
does_hold cc.Lt f = not (are_same f.n f.v)
does_hold cc.Gt f = are_same f.n f.v && not f.z
does_hold cc.Le f = not (are_same f.n f.v) || f.z
does_hold cc.Al f = true
does_hold cc.Nv f = false
