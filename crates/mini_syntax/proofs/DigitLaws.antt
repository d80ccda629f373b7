-- The number that digits write, digit by digit.
use Rattle.std.proofs.Common.{◌≡◌, ℕ, ◌+◌, ◌-◌, ◌*◌, ◌≤◌, ◌<◌, List, [], ◌∷◌, length, drop, get_or, true, false, cond, Some, None, refl, sym, ap, ◌∙◌, arith}
use Rattle.std.{proofs.lemmas.Bool.{lt-ltb, ltb-true}, proofs.lemmas.List.drop_more}
use Rattle.std.specs.Prelude as std
use Rattle.mini_syntax.specs.Breaches.{is_too_large, number_after, number_of}

-- more digits make no number smaller
grows : (n : ℕ) (digits : List ℕ) → n ≤ number_after n digits
grows n [] = omega arith
grows n (digit ∷ digits) = let later = grows (10 * n + (digit - 48)) digits in omega (arith, later)

-- a number that is too large stays so
pub stays_large : (n : ℕ) (digits : List ℕ) → is_too_large n ≡ true → is_too_large (number_after n digits) ≡ true
stays_large n digits e =
    let large : 2147483647 < n = ltb-true 2147483647 n e in
    let more = grows n digits in
    lt-ltb 2147483647 (number_after n digits) (omega (arith, large, more))

-- a number, where it isn't too large
abbrev pub if_small : ℕ → std.Option ℕ
if_small n = cond (is_too_large n) None (Some n)

pub is_refused : (n : ℕ) → None ≡ if_small n → is_too_large n ≡ true
is_refused n e = pick (is_too_large n) refl e
  where
    pick : (b : std.Bool) → is_too_large n ≡ b → None ≡ cond b None (Some n) → is_too_large n ≡ true
    pick true p h = p
    pick false p h = absurd cc

-- the digit at hand, and those after it
pub digits_next : (digits : List ℕ) (i n d : ℕ) → i < length digits → number_after n (drop i digits)
    ≡ number_after (10 * n + (get_or digits i d - 48)) (drop (i + 1) digits)
digits_next digits i n d lt = ap (number_after n) (drop_more digits i d lt)

-- the digits so far are too many
pub digits_large : (digits : List ℕ) (n : ℕ) (rest : List ℕ) → is_too_large n ≡ true → number_after n rest ≡ number_of digits
    → None ≡ if_small (number_of digits)
digits_large digits n rest large so_far = rw (sym (ap is_too_large so_far) ∙ stays_large n rest large) refl
