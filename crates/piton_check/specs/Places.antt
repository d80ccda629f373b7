-- Places change nothing: the text of a system may be laid out in any way.
use Rattle.std.specs.Prelude.{◌≡◌, List, map}
use Rattle.stack_text.specs.declared.breach.Breach.{Breach}
use Rattle.piton_syntax.specs.Systems.{SystemOf, without_places}
use Rattle.piton_check.specs.{Resolved.{resolved}, Violations.{violations}}

-- the same rules are broken, as often and in the same order
abbrev pub BreakAlike : List Breach → List Breach → Type 0
BreakAlike bs cs = map (λ (b : Breach). b.rule) bs ≡ map (λ (b : Breach). b.rule) cs

-- two systems that differ in places alone break the same rules, and their names resolve to the same system
abbrev pub PlacesChangeNothing : Type 0
PlacesChangeNothing =
    (s r : SystemOf) → without_places s ≡ without_places r → BreakAlike (violations s) (violations r) × (resolved s ≡ resolved r)
