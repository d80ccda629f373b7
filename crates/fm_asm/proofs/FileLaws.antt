-- The image that a text spells keeps the limits of images, and its numbers have 32 bits.
use Rattle.std.proofs.Common.{◌≡◌, ℕ, ◌^◌, ◌==◌, Bool, true, false, cond, List, [], ◌∷◌, length, refl, sym, subst, arith, nat_lt, le-leb, ◌≤◌}
use Rattle.std.proofs.lemmas.Bool.{and_parts, and_from}
use Rattle.fm_image.{specs.Image.ImageOf, specs.Limits.{is_size, is_inside, all_after}, specs.Spelling.{are_words, spelling, Spelled}}
use Rattle.fm_image.proofs.LimitLaws.{from_limits}
use Rattle.fm_asm.{specs.Cuts.{unless_trailing, without_trailing}, specs.Printing.plain_image, specs.Assembly.IsAssembly, proofs.JudgedLaws.shorter}

-- words without the zeros at their end
fit_unless : (w : ℕ) (ws : List ℕ) → nat_lt w (2 ^ 32) ≡ true → are_words ws ≡ true → are_words (unless_trailing 0 w ws) ≡ true
fit_unless w [] h k = by_test (w == 0)
  where
    by_test : (t : Bool) → are_words (cond t [] (w ∷ [])) ≡ true
    by_test true = refl
    by_test false = and_from (nat_lt w (2 ^ 32)) true h refl
fit_unless w (v ∷ ws) h k = and_from (nat_lt w (2 ^ 32)) (are_words (v ∷ ws)) h k

fit_trimmed : (ws : List ℕ) → are_words ws ≡ true → are_words (without_trailing 0 ws) ≡ true
unfolding without_trailing
fit_trimmed [] h = refl
fit_trimmed (w ∷ ws) h =
    let parts = and_parts (nat_lt w (2 ^ 32)) (are_words ws) h in
    fit_unless w (without_trailing 0 ws) parts.0 (fit_trimmed ws parts.1)

plain_fits : (base size final_pc start : ℕ) (ws : List ℕ) → is_size base size ≡ true → is_inside base size final_pc ≡ true → length ws ≤ size
    → nat_lt start (2 ^ 32) ≡ true → are_words ws ≡ true
    → Spelled (spelling (plain_image base size final_pc start ws)) (plain_image base size final_pc start ws)
unfolding all_after
plain_fits base size final_pc start ws sized inside few begins fit = record {
  limits = from_limits (plain_image base size final_pc start ws) (record {
    version = refl;
    window = and_from (is_size base size) (is_inside base size final_pc) sized inside;
    registers = refl;
    condition_address = refl;
    condition_count = refl;
    conditions = refl;
    slot_count = refl;
    slots = refl;
    words = le-leb (length ws) size few;
    tables = refl;
  });
  registers = and_from (nat_lt start (2 ^ 32)) true begins refl;
  words = fit;
  fields = refl;
}

pub assembled_fits : (text : List ℕ) (image : ImageOf) → IsAssembly text image → Spelled (spelling image) image
assembled_fits text image a =
    let fits = and_parts (nat_lt a.start_pc (2 ^ 32)) (are_words a.words) a.fit in
    let few : length (without_trailing 0 a.words) ≤ image.size = omega (arith, shorter) in
    subst (λ (i : ImageOf). Spelled (spelling i) i) (sym a.image_is)
    (plain_fits image.base image.size image.final_pc a.start_pc (without_trailing 0 a.words) a.sized a.inside few fits.0 (fit_trimmed a.words fits.1))
