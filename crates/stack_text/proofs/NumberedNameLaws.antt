-- A letter and a number: a name, and one that differs from those of other numbers.
use Rattle.std.proofs.Common.{◌≡◌, ◌≢◌, ℕ, suc, ◌<◌, ◌≤◌, ◌^◌, List, [], ◌∷◌, length, drop, bytes_eq, Bool, true, false, refl, ap, sym, ◌∙◌, arith}
use Rattle.std.{specs.Prelude.{IsTrue, ◌||◌}, specs.Char.{is_ascii_alphabetic, is_ascii_digit, is_ascii_uppercase, is_ascii_lowercase}, specs.List.list_all}
use Rattle.std.{specs.Fmt.decimal, specs.Str.Parse.{AllDigits, digits_value}, proofs.lemmas.Bool.le-leb, proofs.lemmas.Fmt.decimal_is_IsNumeral_wide}
use Rattle.std.{proofs.lemmas.Fmt.length-decimal-le, proofs.lemmas.Str.Parse.digit_from_value, proofs.lemmas.Slice.Eq.bytes_eq-Decides}
use Rattle.stack_text.specs.Names.{is_name, is_name_byte, is_mark, is_truth_word}

digits_pass : (ds : List ℕ) → AllDigits 10 ds → list_all is_name_byte ds ≡ true
digits_pass [] h = refl
digits_pass (d ∷ ds) h =
    let r = digit_from_value d h.0 in
    rw (le-leb 48 d r.0, le-leb d 57 r.1) (digits_pass ds h.1)

pub letter_passes : (digit upper lower mark : Bool) → (upper || lower) ≡ true → (((digit || upper) || lower) || mark) ≡ true
letter_passes true upper lower mark e = refl
letter_passes false true lower mark e = refl
letter_passes false false true mark e = refl
letter_passes false false false mark e = absurd cc

-- the letter is one with which neither word for a truth value begins
pub numbered_named : (letter n : ℕ) → is_ascii_alphabetic letter ≡ true → ((bytes : List ℕ) → is_truth_word (letter ∷ bytes) ≡ false) →
    n < 2 ^ 32 → IsTrue (is_name (letter ∷ decimal n))
numbered_named letter n alphabetic differs lt =
    let first : is_name_byte letter ≡ true =
    letter_passes (is_ascii_digit letter) (is_ascii_uppercase letter) (is_ascii_lowercase letter) (is_mark letter) alphabetic in
    let digits = digits_pass (decimal n) (decimal_is_IsNumeral_wide n (omega (arith, lt))).0.1 in
    let short : length (decimal n) ≤ 10 = length-decimal-le 10 n (omega (arith, lt)) (omega (arith, lt)) (omega arith) in
    let not_truth = differs (decimal n) in
    rw (not_truth, alphabetic, first, digits, le-leb (suc (length (decimal n))) 64 (omega (arith, short))) refl

same_number : (letter n m : ℕ) → n < 2 ^ 32 → m < 2 ^ 32 → letter ∷ decimal n ≡ letter ∷ decimal m → n ≡ m
same_number letter n m low lower e =
    let digits : decimal n ≡ decimal m = ap (drop 1) e in
    sym (decimal_is_IsNumeral_wide n (omega (arith, low))).1 ∙ ap (digits_value 10) digits ∙ (decimal_is_IsNumeral_wide m (omega (arith, lower))).1

pub numbered_differs : (letter n m : ℕ) → n < 2 ^ 32 → m < 2 ^ 32 → n ≢ m → bytes_eq (letter ∷ decimal n) (letter ∷ decimal m) ≡ false
numbered_differs letter n m low lower differs = by_test (bytes_eq (letter ∷ decimal n) (letter ∷ decimal m)) refl
  where
    by_test : (b : Bool) → bytes_eq (letter ∷ decimal n) (letter ∷ decimal m) ≡ b → b ≡ false
    by_test true e = absurd (differs (same_number letter n m low lower ((bytes_eq-Decides (letter ∷ decimal n) (letter ∷ decimal m)).0 e)))
    by_test false e = refl
