-- The checked system of a text is one, by its definition alone.
use Rattle.std.{proofs.Common.{◌≡◌, ◌≤◌, ℕ, List, Option, Some, None, Result, Ok, Err, length, refl, subst}, specs.Prelude.◌^◌}
use Rattle.stack_text.{specs.declared.breach.Breach.Breach, specs.Breaches.least, proofs.BreachLaws.none_least, proofs.ReaderLaws.text_keeps_form}
use Rattle.piton_syntax.{specs.declared.fault.PitonFault.PitonFault, specs.PitonReading.{KeepsForm, piton_in, piton_reader}, specs.Systems.SystemOf}
use Rattle.piton_syntax.proofs.KeepsLaws.{read_keeps}
use Rattle.piton_check.{specs.PitonChecking.{CheckedOf, IsChecked}, specs.Resolved.resolved, specs.Violations.violations, proofs.CheckedLaws.checked_from}
use Rattle.command_replies.specs.Commands.PitonText.{checked_unless, checked_by, checked_in}

-- the checked system of a text is one
pub text_is_checked : (text : List ℕ) → length text ≤ 2 ^ 31 → (c : CheckedOf) → checked_in text ≡ Ok c → IsChecked c
unfolding checked_in
text_is_checked text short c is = by_reading (piton_in text) refl is
  where
    by_breach : (system : SystemOf) → KeepsForm system → (breach : Option Breach) → least (violations system) ≡ breach
        → checked_unless system breach ≡ Ok c → IsChecked c
    by_breach system form None none h =
        let same : record { system = system; resolved = resolved system } ≡ c = cc in
        subst IsChecked same (checked_from system (resolved system) form (none_least (violations system) none) refl)
    by_breach system form (Some breach) some h = absurd cc

    by_reading : (found : Result SystemOf PitonFault) → piton_in text ≡ found → checked_by found ≡ Ok c → IsChecked c
    by_reading (Ok system) reads h = by_breach system (text_keeps_form piton_reader read_keeps text short system reads) (least (violations system)) refl h
    by_reading (Err fault) reads h = absurd cc
