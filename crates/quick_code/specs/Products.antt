-- How many instructions a product takes.
use Rattle.std.specs.Prelude.{ℕ, zero, suc, ◌+◌, ◌-◌, ◌*◌, ◌^◌, ℤ, pos, negsuc, neg_ℤ, nat_le, if◌then◌else◌}
use Rattle.fm_words.specs.Word.{is_int}

-- how many binary digits a number below 2^n has, for example 3 for 7, and none for 0
abbrev pub digits : ℕ → ℕ → ℕ
digits zero m = 0
digits (suc n) m = if nat_le (2 ^ n) m then suc n else digits n m

-- how many of 31 binary digits an integer takes beside its sign, for example 3 for 7 and for -8; it can be doubled once for each other
-- digit
abbrev pub digits_of : ℤ → ℕ
digits_of (pos n) = digits 32 n
digits_of (negsuc n) = digits 32 n

-- The rounds, which add z and double it. There is one for each digit of m, with five instructions, and three for the highest digit. If z
-- can't be doubled so often, the first doubling that overflows ends the last round.
abbrev pub rounds_count : ℤ → ℕ → ℕ
rounds_count z m =
    let below_highest = digits 32 m - 1 in
    let doublings = 31 - digits_of z in
    if nat_le below_highest doublings then 5 * below_highest + 3 else 5 * (doublings + 1)

-- a product x * y: three instructions for its start, one or four for the signs, and the rounds
abbrev pub product_count : ℤ → ℤ → ℕ
product_count x (pos m) = 3 + (1 + rounds_count x m)
product_count x (negsuc m) = 3 + (4 + (if is_int (neg_ℤ x) then rounds_count (neg_ℤ x) (suc m) else 0))
