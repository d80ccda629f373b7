-- Flags and their number 8c + 4v + 2n + z.
use Rattle.std.{proofs.Common.{◌≡◌, ℕ, ◌<◌, ◌≤◌, eqb, Bool, true, false, arith, refl}, proofs.lemmas.Bool.{eqb-true, agree_below_at}}
use Rattle.std.specs.Int.{from_bool as bit_of}
use Rattle.fm_words.{specs.Code.flags_of, specs.Encoding.flags_number, specs.declared.condition.Flags.Flags}

-- the flags of a number of flags are those flags
by_flags : (c v n z : Bool) → let f : Flags = record { c = c; v = v; n = n; z = z } in flags_of (flags_number f) ≡ f
by_flags false false false false = refl
by_flags false false false true = refl
by_flags false false true false = refl
by_flags false false true true = refl
by_flags false true false false = refl
by_flags false true false true = refl
by_flags false true true false = refl
by_flags false true true true = refl
by_flags true false false false = refl
by_flags true false false true = refl
by_flags true false true false = refl
by_flags true false true true = refl
by_flags true true false false = refl
by_flags true true false true = refl
by_flags true true true false = refl
by_flags true true true true = refl

pub flags_of_back : (f : Flags) → flags_of (flags_number f) ≡ f
flags_of_back f = by_flags f.c f.v f.n f.z

-- the number of the flags of a number below 16 is that number
pub flags_number_back : (n : ℕ) → n < 16 → flags_number (flags_of n) ≡ n
flags_number_back n h = eqb-true _ _ (agree_below_at (λ k. eqb (flags_number (flags_of k)) k) (λ k. true) 16 n refl h)

pub bit_small : (b : Bool) → bit_of b ≤ 1
bit_small false = omega arith
bit_small true = omega arith

-- a number of flags is below 16
pub flags_number_below : (f : Flags) → flags_number f < 16
flags_number_below f = omega (arith, bit_small f.c, bit_small f.v, bit_small f.n, bit_small f.z)
