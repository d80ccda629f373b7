-- The source of a text is accepted, by its definition alone.
use Rattle.std.{proofs.Common.{◌≡◌, ◌≤◌, ℕ, List, Option, Some, None, Result, Ok, Err, length, refl, subst}, specs.Prelude.◌^◌}
use Rattle.stack_text.{specs.declared.breach.Breach.Breach, specs.Breaches.least, proofs.BreachLaws.none_least, proofs.ReaderLaws.text_keeps_form}
use Rattle.gypsy_syntax.{specs.declared.fault.GypsyFault.GypsyFault, specs.GypsyReading.{KeepsForm, gypsy_in, gypsy_reader}, specs.Sources.SourceOf}
use Rattle.gypsy_syntax.proofs.KeepsLaws.{read_keeps}
use Rattle.gypsy_check.{specs.Accepted.IsAccepted, specs.Rules.violations, proofs.FitsLaws.source_fits}
use Rattle.stack_build.specs.Build.{accepted_unless, accepted_by, accepted_source}

pub source_is_accepted : (text : List ℕ) → length text ≤ 2 ^ 31 → (source : SourceOf) → accepted_source text ≡ Ok source → IsAccepted source
unfolding accepted_source
source_is_accepted text short source is = by_reading (gypsy_in text) refl is
  where
    by_breach : (s : SourceOf) → KeepsForm s → (breach : Option Breach) → least (violations s) ≡ breach → accepted_unless s breach ≡ Ok source
        → IsAccepted source
    by_breach s form None none h =
        let same : s ≡ source = cc in
        let clean = none_least (violations s) none in
        subst IsAccepted same record { form = form; rules = clean; fits = source_fits s clean }
    by_breach s form (Some breach) some h = absurd cc

    by_reading : (found : Result SourceOf GypsyFault) → gypsy_in text ≡ found → accepted_by found ≡ Ok source → IsAccepted source
    by_reading (Ok s) reads h = by_breach s (text_keeps_form gypsy_reader read_keeps text short s reads) (least (violations s)) refl h
    by_reading (Err fault) reads h = absurd cc
