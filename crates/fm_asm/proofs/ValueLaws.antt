-- Values, and the bytes that they have.
use Rattle.std.proofs.Common.{◌≡◌, ℕ, ◌==◌, Bool, true, false, not, List, [], ◌∷◌, length, Some, option_map, refl, sym, ap, subst, ◌∙◌, arith, codes, eqb-true}
use Rattle.std.{proofs.Common.nat_lt, specs.List.list_all, specs.Char.{is_ascii_digit, is_ascii_alphabetic}, proofs.lemmas.Bool.{and_parts, and_from}}
use Rattle.std.{proofs.lemmas.Bool.{cond-true, cond-false}, proofs.lemmas.Bool.Decides.nat_tests, specs.Prelude.IsOk}
use Rattle.std.proofs.lemmas.List.Sums.{list_all-from_AllPass}
use Rattle.hex.{specs.Hex.{decode_sized, is_hex_digit}, proofs.HexLemmas.IsOk-decode_sized}
use Rattle.stack_text.{specs.Names.{is_name, is_name_byte, begins_with_letter}, specs.Numerals.is_digits, proofs.SharedLaws.and_false}
use Rattle.fm_asm.{specs.Cuts.after_prefix, specs.Values.{Value, number, decimal_value, decimal_in, number_of_bytes, hex_value, hexadecimal_after, as_number}}
use Rattle.fm_asm.{specs.Values.value_in, specs.Assembly.{IsHexadecimal, SpellsValue, decimal, hexadecimal, named}, proofs.CutLaws.{lacks, after_prefix-append}}

-- where each byte passes, and this one doesn't, it is lacking
pub lacks_from : (p : ℕ → Bool) (byte : ℕ) (bytes : List ℕ) → p byte ≡ false → list_all p bytes ≡ true → lacks byte bytes ≡ true
lacks_from p byte [] fails h = refl
lacks_from p byte (b ∷ bytes) fails h =
    let parts = and_parts (p b) (list_all p bytes) h in
    and_from (not (b == byte)) (lacks byte bytes) (other (b == byte) refl parts.0) (lacks_from p byte bytes fails parts.1)
  where
    other : (t : Bool) → (b == byte) ≡ t → p b ≡ true → not t ≡ true
    other true e k = absurd (let same : b ≡ byte = eqb-true b byte e in let passes : p byte ≡ true = subst (λ x. p x ≡ true) same k in cc)
    other false e k = refl

pub digits_lack : (byte : ℕ) (digits : List ℕ) → is_ascii_digit byte ≡ false → is_digits digits ≡ true → lacks byte digits ≡ true
digits_lack byte digits fails h = lacks_from is_ascii_digit byte digits fails (and_parts _ _ h).1

pub name_lacks : (byte : ℕ) (name : List ℕ) → is_name_byte byte ≡ false → is_name name ≡ true → lacks byte name ≡ true
name_lacks byte name fails h = lacks_from is_name_byte byte name fails (and_parts _ _ (and_parts _ _ (and_parts _ _ h).0).0).1

-- a name begins with a letter
pub name_begins : (name : List ℕ) → is_name name ≡ true → begins_with_letter name ≡ true
name_begins name h = (and_parts _ _ (and_parts _ _ (and_parts _ _ h).0).0).0

letter_is_no_digit : (b : ℕ) → is_ascii_alphabetic b ≡ true → is_ascii_digit b ≡ false
letter_is_no_digit b h = grind (arith, nat_tests)

pub name_is_no_digits : (name : List ℕ) → is_name name ≡ true → is_digits name ≡ false
name_is_no_digits [] h = refl
name_is_no_digits (b ∷ bytes) h = cc (letter_is_no_digit b (name_begins (b ∷ bytes) h), and_false (nat_lt 0 (length (b ∷ bytes))))

hex_is_no_digits : (digits : List ℕ) → is_digits (48 ∷ 120 ∷ digits) ≡ false
hex_is_no_digits digits = and_false (nat_lt 0 (length (48 ∷ 120 ∷ digits)))

pub decimal_written : (digits : List ℕ) → is_digits digits ≡ true → decimal_in digits ≡ Some (decimal_value digits)
unfolding decimal_in
decimal_written digits h = cond-true (is_digits digits) _ _ h

hex_written : (digits : List ℕ) (n : ℕ) → IsHexadecimal digits n → hex_value digits ≡ Some n
unfolding hex_value
hex_written digits n h = ap number_of_bytes h.digits_are ∙ ap Some (sym h.number_is)

pub value_written : (text : List ℕ) (v : Value) → SpellsValue text v → value_in text ≡ Some v
unfolding value_in
value_written _ _ (decimal digits h) = cc
value_written _ _ (hexadecimal digits n h) =
    let rest : hexadecimal_after (after_prefix (codes "0x") (48 ∷ 120 ∷ digits)) ≡ Some (number (Some n)) =
    ap hexadecimal_after (after_prefix-append (codes "0x") digits) ∙ ap (option_map as_number) (hex_written digits n h) in
    cond-false _ _ _ (hex_is_no_digits digits) ∙ rest
value_written _ _ (named name h) = cond-false _ _ _ (name_is_no_digits name h) ∙ cond-true _ _ _ h

-- ---- bytes that no value has

pub hex_lacks : (byte : ℕ) (digits : List ℕ) (n : ℕ) → is_hex_digit byte ≡ false → IsHexadecimal digits n → lacks byte digits ≡ true
hex_lacks byte digits n fails h =
    let is_ok : IsOk (decode_sized digits 4) = rw h.digits_are refl in
    lacks_from is_hex_digit byte digits fails (list_all-from_AllPass is_hex_digit digits ((IsOk-decode_sized digits 4).0 is_ok).1)

pub value_colonless : (text : List ℕ) (v : Value) → SpellsValue text v → lacks 58 text ≡ true
value_colonless _ _ (decimal digits h) = digits_lack 58 digits refl h
value_colonless _ _ (hexadecimal digits n h) = and_from _ _ refl (and_from _ _ refl (hex_lacks 58 digits n refl h))
value_colonless _ _ (named name h) = name_lacks 58 name refl h
