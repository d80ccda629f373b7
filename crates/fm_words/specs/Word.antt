-- Words of 32 bits, and the integers that they are read as.
use Rattle.std.specs.Prelude.{ℕ, ◌-◌, ◌^◌, ◌==◌, Bool, false, Option, Some, None, nat_lt, if◌then◌else◌, ℤ, pos, negsuc, ◌-ℤ◌, unsigned_abs}
use Rattle.std.specs.Int.{int_rem_euclid}

-- the signed reading: the word itself below 2^31, else the word minus 2^32
abbrev pub signed_of : ℕ → ℤ
signed_of word = if nat_lt word (2 ^ 31) then pos word else pos word -ℤ pos (2 ^ 32)

-- an integer fits 32 bits with a sign: it is from -2^31 to 2^31 - 1, where `negsuc n` is -(n + 1)
abbrev pub is_int : ℤ → Bool
is_int (pos n) = nat_lt n (2 ^ 31)
is_int (negsuc n) = nat_lt n (2 ^ 31)

-- an integer fits 32 bits without a sign: it is from 0 to 2^32 - 1
abbrev pub is_nat : ℤ → Bool
is_nat (pos n) = nat_lt n (2 ^ 32)
is_nat (negsuc n) = false

-- the integer, where it fits 32 bits with a sign
abbrev pub signed_32 : ℤ → Option ℤ
signed_32 z = if is_int z then Some z else None

-- the integer as a natural number, where it fits 32 bits without a sign
abbrev pub unsigned_32 : ℤ → Option ℕ
unsigned_32 (pos n) = if nat_lt n (2 ^ 32) then Some n else None
unsigned_32 (negsuc n) = None

-- the word of an integer that fits 32 bits with a sign
abbrev pub word_of_int : ℤ → ℕ
word_of_int (pos n) = n
word_of_int (negsuc n) = 2 ^ 32 - 1 - n

-- what 32 bits keep of any integer: the integer modulo 2^32
abbrev pub wrapped : ℤ → ℕ
wrapped z = unsigned_abs (int_rem_euclid z (pos (2 ^ 32)))

-- equality of integers, as a test
abbrev pub are_same_ints : ℤ → ℤ → Bool
are_same_ints (pos m) (pos n) = m == n
are_same_ints (negsuc m) (negsuc n) = m == n
are_same_ints s t = false
