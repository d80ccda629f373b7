-- Words and the integers that they are read as.
use Rattle.std.{proofs.Common.{◌≡◌, ℕ, ◌^◌, ◌<◌, true, arith}, specs.Prelude.{ℤ, pos, negsuc, FitsSigned}, specs.Int.{w32, cast_signed}}
use Rattle.std.{proofs.lemmas.Bool.{ltb-true, lt-ltb}, proofs.lemmas.Bool.Decides.nat_tests, proofs.lemmas.Int.ints}
use Rattle.fm_words.specs.Word.{signed_of, is_int, word_of_int, wrapped}

-- the signed reading of an integer's word is the integer
pub signed_of-word_of_int : (z : ℤ) → is_int z ≡ true → signed_of (word_of_int z) ≡ z
signed_of-word_of_int (pos n) h = grind (arith, nat_tests, ints)
signed_of-word_of_int (negsuc n) h = grind (arith, nat_tests, ints)

-- the word of a word's signed reading is the word
pub word_of_int-signed_of : (word : ℕ) → word < 2 ^ 32 → word_of_int (signed_of word) ≡ word
word_of_int-signed_of word h = grind (arith, nat_tests, ints)

-- so is that of its reading as an `i32`
pub word_of_int-cast_signed : (word : ℕ) → word < 2 ^ 32 → word_of_int (cast_signed w32 word) ≡ word
word_of_int-cast_signed word h = grind (arith, nat_tests)

-- the first two, for attributes
pub ruleset readings = (signed_of-word_of_int, word_of_int-signed_of)

-- the word of an integer has 32 bits
pub word_of_int_below : (z : ℤ) → is_int z ≡ true → word_of_int z < 2 ^ 32
word_of_int_below (pos n) h = grind (arith, nat_tests)
word_of_int_below (negsuc n) h = grind (arith, nat_tests)

-- what 32 bits keep of an integer that fits is its word
pub wrapped-int : (z : ℤ) → is_int z ≡ true → wrapped z ≡ word_of_int z
wrapped-int (pos n) h = let below : n < 2 ^ 31 = grind (arith, nat_tests) in omega arith
wrapped-int (negsuc n) h = let below : n < 2 ^ 31 = grind (arith, nat_tests) in omega arith

-- and in any case it has 32 bits
pub wrapped_below : (z : ℤ) → wrapped z < 2 ^ 32
wrapped_below (pos n) = omega arith
wrapped_below (negsuc n) = omega arith

-- the range of `i32`, as a test and as a fact
pub fits_signed : (z : ℤ) → is_int z ≡ true → FitsSigned w32 z
fits_signed (pos n) h = record { sfits = ltb-true n (2 ^ 31) h }
fits_signed (negsuc n) h = record { sfits = ltb-true n (2 ^ 31) h }

pub is_int_from_fits : (z : ℤ) → FitsSigned w32 z → is_int z ≡ true
is_int_from_fits (pos n) h = lt-ltb n (2 ^ 31) h.sfits
is_int_from_fits (negsuc n) h = lt-ltb n (2 ^ 31) h.sfits
