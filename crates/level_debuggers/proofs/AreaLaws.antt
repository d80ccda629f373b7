-- The words of the areas of a state, one area after the other.
use Rattle.std.{proofs.Common.{◌≡◌, ◌≤◌, List, [], ◌∷◌, length, sym, ap, ◌∙◌, subst}, specs.List.flat_map, proofs.lemmas.List.length-map}
use Rattle.piton_words.specs.declared.word.Word.{Word}
use Rattle.piton_check.{specs.PitonChecking.{CheckedOf, IsChecked}, specs.Resolved.ResolvedOf, specs.Instruction.{SystemView, system_view}}
use Rattle.piton_semantics.{specs.Fits.{Each, IsWordOf, system_in}, specs.StateView.{Seen, IsSeen}, proofs.EachLaws.each_append}
use Rattle.level_debuggers.specs.PitonReadings.{area_words}

-- each of them exists
known : (s : SystemView) (areas : List (List Word)) → Each (Each (IsWordOf s)) areas → Each (IsWordOf s) (flat_map (λ ws. ws) areas)
known s [] all = tt
known s (area ∷ areas) all = each_append (IsWordOf s) area (flat_map (λ ws. ws) areas) all.0 (known s areas all.1)

pub known_words : (s : SystemView) (v : Seen) (words : List Word) → words ≡ area_words v.state → IsSeen s v → Each (IsWordOf s) words
known_words s v words is seen = subst (λ (ws : List Word). Each (IsWordOf s) ws) (sym is) (known s v.state.areas seen.state.areas)

-- a state has as many areas as its system, and they are few
pub same_count : (c : CheckedOf) (r : ResolvedOf) (v : Seen) → r ≡ c.resolved → IsSeen (system_in c) v
    → length v.state.areas ≡ length (system_view r).areas
same_count c r v same seen =
    subst (λ (u : ResolvedOf). length v.state.areas ≡ length (system_view u).areas) (sym same)
    (sym (length-map v.state.areas length) ∙ ap length seen.state.lengths ∙ length-map (system_in c).areas length)

pub few_areas : (c : CheckedOf) (r : ResolvedOf) → r ≡ c.resolved → IsChecked c → length (system_view r).areas ≤ 1000
few_areas c r same h = subst (λ (u : ResolvedOf). length (system_view u).areas ≤ 1000) (sym same) h.sound.few_areas
