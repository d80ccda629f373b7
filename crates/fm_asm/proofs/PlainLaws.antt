-- What is assembled is plain.
use Rattle.std.proofs.Common.{◌≡◌, ℕ, suc, ◌-◌, ◌==◌, Bool, true, false, cond, not, List, [], ◌∷◌, length, Option, Some, None, Result, Ok, Err, refl, sym, ap}
use Rattle.std.{proofs.Common.{◌∙◌, arith}, specs.Prelude.{slice_get, IfOk, IsTrue}, specs.Result.result_unwrap_or}
use Rattle.stack_text.{specs.Breaches.least, specs.Results.◌>>=◌, specs.declared.breach.Breach.Breach}
use Rattle.fm_image.specs.Image.{ImageOf}
use Rattle.fm_asm.{specs.declared.fault.AsmFault.AsmFault, specs.Cuts.{unless_trailing, without_trailing}, specs.Sources.{SourceOf, source_in}}
use Rattle.fm_asm.{specs.Labels.{breaches, words_of}, specs.Printing.{is_zero, ends_in_zero, is_plain}, specs.Assembling.{GivesAssemblyUnless, image_of}}
use Rattle.fm_asm.specs.Assembling.{image_unless, assembly_of}

no_zero : (w : ℕ) (ws : List ℕ) → ends_in_zero ws ≡ false → ends_in_zero (unless_trailing 0 w ws) ≡ false
no_zero w [] h = by_test (w == 0) refl
  where
    by_test : (t : Bool) → (w == 0) ≡ t → ends_in_zero (cond t [] (w ∷ [])) ≡ false
    by_test true e = refl
    by_test false e = e
no_zero w (v ∷ ws) h =
    let count : suc (suc (length ws)) - 1 ≡ suc (suc (length ws) - 1) = omega arith in
    ap (λ (k : ℕ). is_zero (slice_get (w ∷ v ∷ ws) k)) count ∙ h

no_last_zero : (ws : List ℕ) → ends_in_zero (without_trailing 0 ws) ≡ false
unfolding without_trailing
no_last_zero [] = refl
no_last_zero (w ∷ ws) = no_zero w (without_trailing 0 ws) (no_last_zero ws)

image_is_plain : (s : SourceOf) → is_plain (image_of s) ≡ true
unfolding is_plain
image_is_plain s = ap not (no_last_zero (words_of s))

-- the image of a text is plain
pub assembled_is_plain : (text : List ℕ) (image : ImageOf) → assembly_of text ≡ Ok image → is_plain image ≡ true
unfolding assembly_of
assembled_is_plain text image h = by_source (source_in text) h
  where
    by_least : (s : SourceOf) (o : Option Breach) → image_unless s o ≡ Ok image → is_plain image ≡ true
    by_least s (Some fault) k = absurd cc
    by_least s None k =
        let same : image_of s ≡ image = ap (λ (r : Result ImageOf Breach). result_unwrap_or r image) k in
        ap is_plain (sym same) ∙ image_is_plain s

    by_source : (r : Result SourceOf Breach) → (r >>= λ s. image_unless s (least (breaches s))) ≡ Ok image → is_plain image ≡ true
    by_source (Err fault) k = absurd cc
    by_source (Ok s) k = by_least s (least (breaches s)) k

pub plain_if : (refused : Type 0) (text : List ℕ) (r : Result ImageOf AsmFault) → GivesAssemblyUnless refused (λ image. image) r (assembly_of text)
    → IfOk r (λ image. IsTrue (is_plain image))
plain_if refused text (Ok image) h = assembled_is_plain text image h
plain_if refused text (Err e) h = tt
