-- Each text of the infix language is a program that breaks no rule, or has a fault.
use Rattle.std.proofs.Common.{◌≡◌, inl, inr, ℕ, List, [], true, false, Option, Some, None, length, refl, sym, ap, ◌∙◌}
use Rattle.std.specs.Prelude as std
use Rattle.stack_text.{specs.declared.breach.Breach.Breach, specs.Breaches.least, proofs.BreachLaws.none_least}
use Rattle.mini_syntax.{specs.declared.expected.Expected.Expected, specs.MiniReading.{of_tokens, of_program, IsRead, TextReading, faultless, faulty}}
use Rattle.mini_syntax.{specs.Breaches.breaches, specs.Expected.{at_start, is_over, taken}, specs.Grammar.{IsProgram, InfixProgram}, specs.Tokens.place_of}
use Rattle.mini_syntax.{specs.Tokens.tokens_in, proofs.ExpectedLaws.{end_of, over_end, program_taken}, proofs.GoesOnLaws.is_whole, proofs.TokenLaws.FreeAfter}
use Rattle.mini_syntax.proofs.TokenLaws.{Walked, stops, ends_so, walk}

-- a program is never at its end where more is expected
not_over : (text : List ℕ) (st : List Expected) → taken (Some at_start) (tokens_in text) ≡ Some st → is_over st ≡ false → (p : InfixProgram)
    → IsProgram text p → ⊥
not_over text st e over p is =
    let whole : Some (end_of p.forms) ≡ Some st = sym (program_taken p) ∙ ap (taken (Some at_start)) (sym is) ∙ e in
    let same : end_of p.forms ≡ st = cc in
    let bad : true ≡ false = sym (over_end p.forms) ∙ ap is_over same ∙ over in
    cc

pub read : (text : List ℕ) → TextReading text
read text = by_walk (walk [] (tokens_in text) at_start refl)
  where
    by_breaches : (p : InfixProgram) → IsRead text p → (found : Option Breach) → least (breaches p) ≡ found → TextReading text
    by_breaches p is None none = faultless p record { read = is; clean = none_least (breaches p) none }
    by_breaches p is (Some breach) some = faulty breach (of_program p is some)

    by_over : (st : List Expected) → taken (Some at_start) (tokens_in text) ≡ Some st → FreeAfter [] (tokens_in text) → (b : std.Bool) → is_over st ≡ b
        → TextReading text
    by_over st e f false over =
        faulty record { place = length text; rule = 2 }
        (of_tokens (inr record { free = f.free; no_program = not_over text st e over; rule_is = refl; at = refl }))
    by_over st e f true over =
        let whole = is_whole (tokens_in text) st e over in
        by_breaches whole.0 record { program = sym whole.1; free = f.free } (least (breaches whole.0)) refl

    by_walk : Walked [] (tokens_in text) → TextReading text
    by_walk (stops pre t post rule e f b first) =
        faulty record { place = place_of t; rule = rule }
        (of_tokens (inl record { before = pre; token = t; after = post; parts = e; free = f.free; breaks = b; least = first; at = refl }))
    by_walk (ends_so st e f) = by_over st e f (is_over st) refl
