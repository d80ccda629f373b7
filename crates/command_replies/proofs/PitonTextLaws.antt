-- A system that was checked: it is the one that was given, and keeps the limits.
use Rattle.std.{proofs.Common.{◌≡◌, ◌≤◌, ℕ, List, [], Ok, length, sym, ap, ◌∙◌, subst}, proofs.lemmas.List.length-map}
use Rattle.stack_text.{specs.declared.breach.Breach.Breach, specs.Breaches.least}
use Rattle.piton_syntax.specs.Systems.{SystemOf}
use Rattle.piton_check.{specs.PitonChecking.{CheckedOf, IsChecked}, specs.Resolved.{ResolvedOf, resolved, resolved_area}, specs.Violations.violations}
use Rattle.command_replies.specs.Commands.PitonText.{checked_unless}

pub is_checked : (system : SystemOf) (c : CheckedOf) → IsChecked c → c.system ≡ system → Ok c ≡ checked_unless system (least (violations system))
is_checked system c is kept =
    let clean : violations system ≡ [] = subst (λ (s : SystemOf). violations s ≡ []) kept is.rules in
    let names : resolved system ≡ c.resolved = sym (is.names ∙ ap resolved kept) in
    let whole : record { system = system; resolved = resolved system } ≡ c = λ i. record { system = sym kept i; resolved = names i } in
    sym (ap (λ (breaches : List Breach). checked_unless system (least breaches)) clean ∙ ap (λ (found : CheckedOf). Ok found) whole)

-- it has few areas
pub few_areas : (c : CheckedOf) → IsChecked c → length c.system.areas ≤ 1000
few_areas c is =
    let same : length c.resolved.areas ≡ length c.system.areas =
    ap (λ (r : ResolvedOf). length r.areas) is.names ∙ length-map c.system.areas (resolved_area c.system) in
    subst (λ (n : ℕ). n ≤ 1000) same is.sound.few_areas
