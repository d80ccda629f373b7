-- An arithmetic shift halves the signed reading, rounded down.
use Rattle.std.{proofs.Common.{◌≡◌, ℕ, ◌+◌, ◌*◌, ◌/◌, ◌^◌, ◌<◌, arith}, proofs.lemmas.Bool.Decides.nat_tests, proofs.lemmas.Int.ints, specs.Prelude.pos}
use Rattle.std.specs.Int.{int_div_euclid}
use Rattle.fm_words.specs.Word.{signed_of}

pub halved : (a : ℕ) → a < 2 ^ 32 → signed_of (a / 2 + a / 2 ^ 31 * 2 ^ 31) ≡ int_div_euclid (signed_of a) (pos 2)
halved a h = grind (arith, nat_tests, ints)
