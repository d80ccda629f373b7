-- A numeral's bytes, as std's `parse` speaks of them.
use Rattle.std.proofs.Common.{◌≡◌, ℕ, zero, suc, ◌^◌, Bool, true, false, cond, leb, ltb, List, [], ◌∷◌, length, drop, Result, Ok, Err, refl, sym, ap, subst}
use Rattle.std.{proofs.Common.arith, specs.Prelude.{ℤ, pos, negsuc, FitsSigned}, specs.List.list_all, specs.Char.is_ascii_digit, specs.Int.{IsInRange, w128}}
use Rattle.std.{specs.Str.IsAscii, specs.Option.SomeIff, specs.Result.{OkIff, result_ok}, specs.Str.Parse.{AllDigits, IsNumeral, starts_with_minus}}
use Rattle.std.{specs.Str.Parse.{without_leading_sign, without_leading_plus}, proofs.lemmas.Bool.{and_parts, leb-true, ltb-true, lt-ltb, eqb-true, ne_eqb}}
use Rattle.std.proofs.lemmas.Str.{digit_value_digit}
use Rattle.stack_text.specs.Numerals.{is_digits, is_numeral, numeral_value, fits_128_bits}

pub digit_in_range : (b : ℕ) → is_ascii_digit b ≡ true → IsInRange 48 57 b
digit_in_range b h = let p = and_parts (leb 48 b) (leb b 57) h in (leb-true 48 b p.0, leb-true b 57 p.1)

all_digits : (ds : List ℕ) → list_all is_ascii_digit ds ≡ true → AllDigits 10 ds
all_digits [] h = tt
all_digits (d ∷ ds) h =
    let p = and_parts (is_ascii_digit d) (list_all is_ascii_digit ds) h in
    let r = digit_in_range d p.0 in
    let v = digit_value_digit d r in
    (omega (arith, v, r.1), all_digits ds p.1)

digits_ascii : (ds : List ℕ) → list_all is_ascii_digit ds ≡ true → IsAscii ds
digits_ascii [] h i = omega arith
digits_ascii (d ∷ ds) h zero = let p = and_parts (is_ascii_digit d) (list_all is_ascii_digit ds) h in let r = digit_in_range d p.0 in omega (arith, r.1)
digits_ascii (d ∷ ds) h (suc i) = digits_ascii ds (and_parts (is_ascii_digit d) (list_all is_ascii_digit ds) h).1 i

digits_are_numeral : (ds : List ℕ) → is_digits ds ≡ true → IsNumeral 10 ds
digits_are_numeral ds h = let p = and_parts (ltb 0 (length ds)) (list_all is_ascii_digit ds) h in (ltb-true 0 (length ds) p.0, all_digits ds p.1)

-- there is no plus before digits
pub no_plus : (ds : List ℕ) → is_digits ds ≡ true → without_leading_plus ds ≡ ds
no_plus [] h = absurd cc
no_plus (d ∷ ds) h =
    let p = and_parts (is_ascii_digit d) (list_all is_ascii_digit ds) (and_parts (ltb 0 (length (d ∷ ds))) (list_all is_ascii_digit (d ∷ ds)) h).1 in
    let r = digit_in_range d p.0 in
    ap (λ (b : Bool). drop (cond b 1 0) (d ∷ ds)) (ne_eqb d 43 (λ e. omega (arith, r.0)))

pub numeral_is_numeral : (bytes : List ℕ) → is_numeral bytes ≡ true → IsNumeral 10 (without_leading_sign bytes)
numeral_is_numeral bytes h = by_sign (starts_with_minus bytes) refl
  where
    by_sign : (b : Bool) → starts_with_minus bytes ≡ b → IsNumeral 10 (without_leading_sign bytes)
    by_sign true e = subst (λ (b : Bool). IsNumeral 10 (cond b (drop 1 bytes) (without_leading_plus bytes))) (sym e)
        (digits_are_numeral (drop 1 bytes) (subst (λ (b : Bool). is_digits (cond b (drop 1 bytes) bytes) ≡ true) e h))
    by_sign false e =
        let digits : is_digits bytes ≡ true = subst (λ (b : Bool). is_digits (cond b (drop 1 bytes) bytes) ≡ true) e h in
        subst (λ (b : Bool). IsNumeral 10 (cond b (drop 1 bytes) (without_leading_plus bytes))) (sym e)
        (subst (IsNumeral 10) (sym (no_plus bytes digits)) (digits_are_numeral bytes digits))

pub numeral_ascii : (bytes : List ℕ) → is_numeral bytes ≡ true → IsAscii bytes
numeral_ascii bytes h = by_sign (starts_with_minus bytes) refl
  where
    second : (ds : List ℕ) → is_digits ds ≡ true → list_all is_ascii_digit ds ≡ true
    second ds k = (and_parts (ltb 0 (length ds)) (list_all is_ascii_digit ds) k).1

    after_minus : (bs : List ℕ) → starts_with_minus bs ≡ true → list_all is_ascii_digit (drop 1 bs) ≡ true → IsAscii bs
    after_minus [] e k i = omega arith
    after_minus (b ∷ bs) e k zero = omega (arith, eqb-true b 45 e)
    after_minus (b ∷ bs) e k (suc i) = digits_ascii bs k i

    by_sign : (b : Bool) → starts_with_minus bytes ≡ b → IsAscii bytes
    by_sign true e = after_minus bytes e (second (drop 1 bytes) (subst (λ (b : Bool). is_digits (cond b (drop 1 bytes) bytes) ≡ true) e h))
    by_sign false e = digits_ascii bytes (second bytes (subst (λ (b : Bool). is_digits (cond b (drop 1 bytes) bytes) ≡ true) e h))

fits_from_test : (z : ℤ) → fits_128_bits z ≡ true → FitsSigned w128 z
fits_from_test (pos n) h = record { sfits = ltb-true n (2 ^ 127) h }
fits_from_test (negsuc n) h = record { sfits = ltb-true n (2 ^ 127) h }

test_from_fits : (z : ℤ) → FitsSigned w128 z → fits_128_bits z ≡ true
test_from_fits (pos n) h = lt-ltb n (2 ^ 127) h.sfits
test_from_fits (negsuc n) h = lt-ltb n (2 ^ 127) h.sfits

-- what `parse` answers at a numeral
pub parsed : {E : Type 0} (bytes : List ℕ) (r : Result ℤ E) → is_numeral bytes ≡ true →
    OkIff r (IsNumeral 10 (without_leading_sign bytes) × FitsSigned w128 (numeral_value bytes)) (numeral_value bytes) →
    SomeIff (result_ok r) (fits_128_bits (numeral_value bytes) ≡ true) (numeral_value bytes)
parsed bytes (Ok z) h p = (test_from_fits (numeral_value bytes) p.0.1, p.1)
parsed bytes (Err e) h p = λ t. p (numeral_is_numeral bytes h, fits_from_test (numeral_value bytes) t)
