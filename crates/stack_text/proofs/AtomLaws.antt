-- Names and numerals are runs of atom bytes, so that they may be atoms; and a number's decimal digits are a numeral of it.
use Rattle.std.proofs.Common.{◌≡◌, ◌≢◌, ℕ, zero, suc, ◌<◌, ◌≤◌, ◌^◌, Bool, true, false, not, ◌&&◌, ◌||◌, cond, eqb, leb, ltb, List, [], ◌∷◌, length, Some, refl}
use Rattle.std.{proofs.Common.{ap, subst, ◌∙◌, arith}, specs.Prelude.{ℤ, pos, negsuc, neg_ℤ}, specs.List.list_all, specs.Char.is_ascii_digit}
use Rattle.std.{specs.Char.is_ascii_alphanumeric, specs.Fmt.{decimal, signed_decimal}, specs.Str.IsAscii, specs.Str.Parse.{AllDigits, IsNumeral, digits_value}}
use Rattle.std.{specs.Str.Parse.starts_with_minus, proofs.lemmas.Bool.{and_parts, leb-true, ltb-true, lt-ltb, le-leb, eqb-true, ne_eqb}}
use Rattle.std.{proofs.lemmas.Fmt.decimal_is_IsNumeral_wide, proofs.lemmas.Str.Parse.digit_from_value}
use Rattle.stack_text.{specs.declared.class.Class.Class, specs.declared.class.Class.TheVariants.AtomByte, specs.Names.{is_name, is_name_byte, is_mark}}
use Rattle.stack_text.{specs.Names.{begins_with_letter, is_truth_word}, specs.Numerals.{is_digits, is_numeral, numeral_value, numeral_of, fits_128_bits}}
use Rattle.stack_text.{specs.Tokens.{class_of, if_atom_byte, atom_run}, proofs.NumeralLaws.{digit_in_range, no_plus}}

-- ---- bytes

atom_byte : (b : ℕ) → 33 ≤ b → b ≤ 126 → b ≢ 40 → b ≢ 41 → b ≢ 59 → class_of b ≡ AtomByte
atom_byte b low high no_open no_close no_comment =
    rw (
      ne_eqb b 10 (λ e. omega arith),
      ne_eqb b 32 (λ e. omega arith),
      ne_eqb b 9 (λ e. omega arith),
      ne_eqb b 13 (λ e. omega arith),
      ne_eqb b 59 no_comment,
      ne_eqb b 40 no_open,
      ne_eqb b 41 no_close,
      le-leb 33 b low,
      le-leb b 126 high,
    )
    refl

-- a test is true of a byte where one of two is
either : (P : Type 0) (a b : Bool) → (a || b) ≡ true → (a ≡ true → P) → (b ≡ true → P) → P
either P true b h f g = f refl
either P false b h f g = g h

in_range : (low high b : ℕ) → (leb low b && leb b high) ≡ true → (low ≤ b) × (b ≤ high)
in_range low high b h = let p = and_parts (leb low b) (leb b high) h in (leb-true low b p.0, leb-true b high p.1)

digit_is_atom_byte : (b : ℕ) → is_ascii_digit b ≡ true → class_of b ≡ AtomByte
digit_is_atom_byte b h = let r = digit_in_range b h in atom_byte b (omega (arith, r.0)) (omega (arith, r.1)) (λ e. omega (arith, r.0))
    (λ e. omega (arith, r.0)) (λ e. omega (arith, r.1))

upper_is_atom_byte : (b : ℕ) → (leb 65 b && leb b 90) ≡ true → class_of b ≡ AtomByte
upper_is_atom_byte b h = let r = in_range 65 90 b h in atom_byte b (omega (arith, r.0)) (omega (arith, r.1)) (λ e. omega (arith, r.0))
    (λ e. omega (arith, r.0)) (λ e. omega (arith, r.0))

lower_is_atom_byte : (b : ℕ) → (leb 97 b && leb b 122) ≡ true → class_of b ≡ AtomByte
lower_is_atom_byte b h = let r = in_range 97 122 b h in atom_byte b (omega (arith, r.0)) (omega (arith, r.1)) (λ e. omega (arith, r.0))
    (λ e. omega (arith, r.0)) (λ e. omega (arith, r.0))

mark_is : (b n : ℕ) → class_of n ≡ AtomByte → eqb b n ≡ true → class_of b ≡ AtomByte
mark_is b n is e = ap class_of (eqb-true b n e) ∙ is

mark_is_atom_byte : (b : ℕ) → is_mark b ≡ true → class_of b ≡ AtomByte
mark_is_atom_byte b h =
    either (class_of b ≡ AtomByte) ((eqb b 45 || eqb b 95) || eqb b 42) (eqb b 36) h
    (λ u. either (class_of b ≡ AtomByte) (eqb b 45 || eqb b 95) (eqb b 42) u
    (λ v. either (class_of b ≡ AtomByte) (eqb b 45) (eqb b 95) v (mark_is b 45 refl) (mark_is b 95 refl)) (mark_is b 42 refl))
    (mark_is b 36 refl)

name_byte_is_atom_byte : (b : ℕ) → is_name_byte b ≡ true → class_of b ≡ AtomByte
name_byte_is_atom_byte b h =
    either (class_of b ≡ AtomByte) (is_ascii_alphanumeric b) (is_mark b) h
    (λ u. either (class_of b ≡ AtomByte) (is_ascii_digit b || (leb 65 b && leb b 90)) (leb 97 b && leb b 122) u
    (λ v. either (class_of b ≡ AtomByte) (is_ascii_digit b) (leb 65 b && leb b 90) v (digit_is_atom_byte b) (upper_is_atom_byte b)) (lower_is_atom_byte b))
    (mark_is_atom_byte b)

-- bytes that all pass a test of atom bytes are one run
all_run : (test : ℕ → Bool) → ((b : ℕ) → test b ≡ true → class_of b ≡ AtomByte) → (bytes : List ℕ) → list_all test bytes ≡ true → atom_run bytes ≡ bytes
all_run test passes [] h = refl
all_run test passes (b ∷ bs) h =
    let p = and_parts (test b) (list_all test bs) h in
    ap (λ (k : Class). if_atom_byte k (b ∷ atom_run bs)) (passes b p.0) ∙ ap (λ (rest : List ℕ). b ∷ rest) (all_run test passes bs p.1)

-- ---- names

pub name_is_run : (bytes : List ℕ) → is_name bytes ≡ true → (0 < length bytes) × (atom_run bytes ≡ bytes)
name_is_run bytes h =
    let p = and_parts ((begins_with_letter bytes && list_all is_name_byte bytes) && leb (length bytes) 64) (not (is_truth_word bytes)) h in
    let q = and_parts (begins_with_letter bytes && list_all is_name_byte bytes) (leb (length bytes) 64) p.0 in
    let r = and_parts (begins_with_letter bytes) (list_all is_name_byte bytes) q.0 in
    (long bytes r.0, all_run is_name_byte name_byte_is_atom_byte bytes r.1)
  where
    long : (bs : List ℕ) → begins_with_letter bs ≡ true → 0 < length bs
    long [] e = absurd cc
    long (b ∷ bs) e = omega arith

-- its bytes are ASCII
name_byte_is_low : (b : ℕ) → is_name_byte b ≡ true → b < 128
name_byte_is_low b h =
    either (b < 128) (is_ascii_alphanumeric b) (is_mark b) h
    (λ u. either (b < 128) (is_ascii_digit b || (leb 65 b && leb b 90)) (leb 97 b && leb b 122) u
    (λ v. either (b < 128) (is_ascii_digit b) (leb 65 b && leb b 90) v
    (λ d. let r = digit_in_range b d in omega (arith, r.1)) (λ d. let r = in_range 65 90 b d in omega (arith, r.1)))
    (λ d. let r = in_range 97 122 b d in omega (arith, r.1)))
    (λ m. either (b < 128) ((eqb b 45 || eqb b 95) || eqb b 42) (eqb b 36) m
    (λ u. either (b < 128) (eqb b 45 || eqb b 95) (eqb b 42) u
    (λ v. either (b < 128) (eqb b 45) (eqb b 95) v (λ e. omega (arith, eqb-true b 45 e)) (λ e. omega (arith, eqb-true b 95 e)))
    (λ e. omega (arith, eqb-true b 42 e)))
    (λ e. omega (arith, eqb-true b 36 e)))

name_bytes_ascii : (bytes : List ℕ) → list_all is_name_byte bytes ≡ true → IsAscii bytes
name_bytes_ascii [] h i = omega arith
name_bytes_ascii (b ∷ bs) h zero = name_byte_is_low b (and_parts (is_name_byte b) (list_all is_name_byte bs) h).0
name_bytes_ascii (b ∷ bs) h (suc i) = name_bytes_ascii bs (and_parts (is_name_byte b) (list_all is_name_byte bs) h).1 i

pub name_is_ascii : (bytes : List ℕ) → is_name bytes ≡ true → IsAscii bytes
name_is_ascii bytes h =
    let p = and_parts ((begins_with_letter bytes && list_all is_name_byte bytes) && leb (length bytes) 64) (not (is_truth_word bytes)) h in
    let q = and_parts (begins_with_letter bytes && list_all is_name_byte bytes) (leb (length bytes) 64) p.0 in
    name_bytes_ascii bytes (and_parts (begins_with_letter bytes) (list_all is_name_byte bytes) q.0).1

-- ---- numerals

digits_are_run : (ds : List ℕ) → is_digits ds ≡ true → (0 < length ds) × (atom_run ds ≡ ds)
digits_are_run ds h =
    let p = and_parts (ltb 0 (length ds)) (list_all is_ascii_digit ds) h in (ltb-true 0 (length ds) p.0, all_run is_ascii_digit digit_is_atom_byte ds p.1)

pub numeral_is_run : (bytes : List ℕ) → is_numeral bytes ≡ true → (0 < length bytes) × (atom_run bytes ≡ bytes)
numeral_is_run [] h = absurd cc
numeral_is_run (b ∷ bs) h = by_sign (eqb b 45) refl
  where
    digits : (s : Bool) → eqb b 45 ≡ s → is_digits (cond s bs (b ∷ bs)) ≡ true
    digits s e = subst (λ (t : Bool). is_digits (cond t bs (b ∷ bs)) ≡ true) e h

    by_sign : (s : Bool) → eqb b 45 ≡ s → (0 < length (b ∷ bs)) × (atom_run (b ∷ bs) ≡ b ∷ bs)
    by_sign false e = digits_are_run (b ∷ bs) (digits false e)
    by_sign true e = (
      omega arith,
      ap (λ (k : Class). if_atom_byte k (b ∷ atom_run bs)) (mark_is b 45 refl e)
          ∙ ap (λ (rest : List ℕ). b ∷ rest) (digits_are_run bs (digits true e)).1,
    )

pub all_digits_pass : (ds : List ℕ) → AllDigits 10 ds → list_all is_ascii_digit ds ≡ true
all_digits_pass [] h = refl
all_digits_pass (d ∷ ds) h =
    let r = digit_from_value d h.0 in
    rw (le-leb 48 d r.0, le-leb d 57 r.1) (all_digits_pass ds h.1)

pub numeral_passes : (ds : List ℕ) → IsNumeral 10 ds → is_digits ds ≡ true
numeral_passes ds h = rw (lt-ltb 0 (length ds) h.0) (all_digits_pass ds h.1)

-- digits alone have no sign
pub no_minus : (ds : List ℕ) → is_digits ds ≡ true → starts_with_minus ds ≡ false
no_minus [] h = absurd cc
no_minus (d ∷ ds) h =
    let p = and_parts (is_ascii_digit d) (list_all is_ascii_digit ds) (and_parts (ltb 0 (length (d ∷ ds))) (list_all is_ascii_digit (d ∷ ds)) h).1 in
    let r = digit_in_range d p.0 in
    ne_eqb d 45 (λ e. omega (arith, r.0))

-- bytes that are a numeral of a number in range read as that number
reads_numeral : (bytes : List ℕ) (z : ℤ) → is_numeral bytes ≡ true → numeral_value bytes ≡ z → fits_128_bits z ≡ true → numeral_of bytes ≡ Some z
reads_numeral bytes z is value fits = rw (is, value, fits) refl

-- a number that fits 128 bits is read from its decimal digits
pub numeral_of-signed_decimal : (z : ℤ) → fits_128_bits z ≡ true → (is_numeral (signed_decimal z) ≡ true) × (numeral_of (signed_decimal z) ≡ Some z)
numeral_of-signed_decimal (pos n) fits = (numeral, reads_numeral (decimal n) (pos n) numeral value fits)
  where
    small : n < 10 ^ 64
    small = let h = ltb-true n (2 ^ 127) fits in omega (arith, h)

    written : IsNumeral 10 (decimal n) × (digits_value 10 (decimal n) ≡ n)
    written = decimal_is_IsNumeral_wide n small

    digits : is_digits (decimal n) ≡ true
    digits = numeral_passes (decimal n) written.0

    numeral : is_numeral (decimal n) ≡ true
    numeral = rw (no_minus (decimal n) digits) digits

    value : numeral_value (decimal n) ≡ pos n
    value = rw (no_minus (decimal n) digits, no_plus (decimal n) digits) (ap pos written.1)
numeral_of-signed_decimal (negsuc n) fits = (digits, reads_numeral (45 ∷ decimal (suc n)) (negsuc n) digits value fits)
  where
    small : suc n < 10 ^ 64
    small = let h = ltb-true n (2 ^ 127) fits in omega (arith, h)

    written : IsNumeral 10 (decimal (suc n)) × (digits_value 10 (decimal (suc n)) ≡ suc n)
    written = decimal_is_IsNumeral_wide (suc n) small

    digits : is_digits (decimal (suc n)) ≡ true
    digits = numeral_passes (decimal (suc n)) written.0

    value : numeral_value (45 ∷ decimal (suc n)) ≡ negsuc n
    value = ap (λ (m : ℕ). neg_ℤ (pos m)) written.1
