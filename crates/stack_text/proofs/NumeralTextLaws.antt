-- The decimal digits of a number are a numeral of it, and without a sign where the number was read from digits alone.
use Rattle.std.{proofs.Common.{◌≡◌, ℕ, ◌^◌, Bool, true, false, ◌&&◌, cond, List, Some, None, refl, sym, subst, arith}, specs.Prelude.{ℤ, pos, negsuc}}
use Rattle.std.{specs.Fmt.{decimal, signed_decimal}, specs.Str.Parse.{digits_value, without_leading_plus}, proofs.lemmas.Bool.{ltb-true, lt-ltb}}
use Rattle.std.proofs.lemmas.Fmt.{decimal_is_IsNumeral_wide}
use Rattle.stack_text.{specs.Numerals.{is_digits, is_numeral, numeral_value, fits_128_bits, IsNatural}, proofs.AtomLaws.{no_minus, numeral_passes}}
use Rattle.stack_text.proofs.AtomLaws.{numeral_of-signed_decimal}

numeral_found : (numeral fits : Bool) (v z : ℤ) → cond (numeral && fits) (Some v) None ≡ Some z → v ≡ z
numeral_found true true v z h = cc
numeral_found true false v z h = absurd cc
numeral_found false fits v z h = absurd cc

-- the digits of a number that fits 128 bits are read as that number
pub value-signed_decimal : (z : ℤ) → fits_128_bits z ≡ true → numeral_value (signed_decimal z) ≡ z
value-signed_decimal z fits =
    numeral_found (is_numeral (signed_decimal z)) (fits_128_bits (numeral_value (signed_decimal z))) (numeral_value (signed_decimal z)) z
    (numeral_of-signed_decimal z fits).1

pub numeral-signed_decimal : (z : ℤ) → fits_128_bits z ≡ true → is_numeral (signed_decimal z) ≡ true
numeral-signed_decimal z fits = (numeral_of-signed_decimal z fits).0

pub value-digits : (ds : List ℕ) → is_digits ds ≡ true → numeral_value ds ≡ pos (digits_value 10 (without_leading_plus ds))
value-digits ds h = rw (no_minus ds h) refl

pub digits-pos : (n : ℕ) → fits_128_bits (pos n) ≡ true → is_digits (signed_decimal (pos n)) ≡ true
digits-pos n fits = let h = ltb-true n (2 ^ 127) fits in numeral_passes (decimal n) (decimal_is_IsNumeral_wide n (omega (arith, h))).0

-- the number of digits alone is not negative
pub natural_digits : (ds : List ℕ) → is_digits ds ≡ true → fits_128_bits (numeral_value ds) ≡ true → IsNatural (numeral_value ds)
natural_digits ds h fits =
    let value : numeral_value ds ≡ pos (digits_value 10 (without_leading_plus ds)) = value-digits ds h in
    subst IsNatural (sym value) (ltb-true _ (2 ^ 127) (subst (λ (z : ℤ). fits_128_bits z ≡ true) value fits))

-- a number that is not negative fits 128 bits, and is printed with digits alone
pub natural_written : (z : ℤ) → IsNatural z → (fits_128_bits z ≡ true) × (is_digits (signed_decimal z) ≡ true)
natural_written (pos n) lt = let fits : fits_128_bits (pos n) ≡ true = lt-ltb n (2 ^ 127) lt in (fits, digits-pos n fits)
natural_written (negsuc n) lt = absurd lt
