-- The first watch of a rule, and the others.
use Rattle.std.proofs.Common.{◌≡◌, ◌+◌, ◌-◌, ◌<◌, ◌≤◌, ℕ, suc, Bool, true, false, cond, List, [], ◌∷◌, ◌++◌, length, map, get_or, take, drop, Option, Some}
use Rattle.std.{proofs.Common.{None, refl, sym, ap, ◌∙◌, arith}, specs.List.{position_from, remove}, specs.Option.option_map}
use Rattle.stack_text.proofs.Loops.{drop-item}
use Rattle.level_debuggers.{specs.declared.watch.Rule.Rule, specs.Tallies.Watching, specs.Taken.{is_same, behind, taken}}

abbrev place_in : Rule → ℕ → List Watching → Option ℕ
place_in rule k watches = position_from (λ w. is_same w.rule rule) k watches

-- no watch has the rule
none_from : (rule : Rule) (watch : Watching) (watches : List Watching) (k : ℕ) (b : Bool)
    → (place_in rule (k + 1) watches ≡ None → taken rule watches ≡ None)
    → cond b (Some k) (place_in rule (k + 1) watches) ≡ None → cond b (Some (watch, watches)) (behind watch (taken rule watches)) ≡ None
none_from rule watch watches k true rest none = absurd cc
none_from rule watch watches k false rest none = ap (behind watch) (rest none)

taken-none : (rule : Rule) (watches : List Watching) (k : ℕ) → place_in rule k watches ≡ None → taken rule watches ≡ None
taken-none rule [] k none = refl
taken-none rule (watch ∷ watches) k none = none_from rule watch watches k (is_same watch.rule rule) (taken-none rule watches (k + 1)) none

-- the watch at a place is taken
record TakesAt {W : Type 0} (seen : W → Watching) (rule : Rule) (items : List W) (k i : ℕ) : Type 0 where
  after : k ≤ i
  within : i < k + length items
  takes : (or : W) → taken rule (map seen items) ≡ Some (seen (get_or items (i - k) or), map seen (take (i - k) items ++ drop (suc (i - k)) items))

some_from : {W : Type 0} (seen : W → Watching) (rule : Rule) (item : W) (items : List W) (k i : ℕ) (b : Bool)
    → b ≡ is_same (seen item).rule rule
    → (place_in rule (k + 1) (map seen items) ≡ Some i → TakesAt seen rule items (k + 1) i)
    → cond b (Some k) (place_in rule (k + 1) (map seen items)) ≡ Some i
    → TakesAt seen rule (item ∷ items) k i
some_from {W} seen rule item items k i true is rest found =
    let at : k ≡ i = cc in
    let none : i - k ≡ 0 = omega arith in
    record {
      after = omega arith;
      within = omega arith;
      takes = λ or.
          ap (λ (c : Bool). cond c (Some (seen item, map seen items)) (behind (seen item) (taken rule (map seen items)))) (sym is)
          ∙ ap (λ (j : ℕ). Some (seen (get_or (item ∷ items) j or), map seen (take j (item ∷ items) ++ drop (suc j) (item ∷ items)))) (sym none);
    }
some_from {W} seen rule item items k i false is rest found =
    let later = rest found in
    let more : i - k ≡ suc (i - (k + 1)) = omega (arith, later.after) in
    record {
      after = omega (arith, later.after);
      within = omega (arith, later.within);
      takes = λ or.
          ap (λ (c : Bool). cond c (Some (seen item, map seen items)) (behind (seen item) (taken rule (map seen items)))) (sym is)
          ∙ ap (behind (seen item)) (later.takes or)
          ∙ ap (λ (j : ℕ). Some (seen (get_or (item ∷ items) j or), map seen (take j (item ∷ items) ++ drop (suc j) (item ∷ items)))) (sym more);
    }

takes_at : {W : Type 0} (seen : W → Watching) (rule : Rule) (items : List W) (k i : ℕ) → place_in rule k (map seen items) ≡ Some i
    → TakesAt seen rule items k i
takes_at seen rule [] k i found = absurd cc
takes_at seen rule (item ∷ items) k i found =
    some_from seen rule item items k i (is_same (seen item).rule rule) refl (takes_at seen rule items (k + 1) i) found

-- Of a list that is seen as a slice.
pub none_taken : {W : Type 0} (all slice : List W) (seen : W → Watching) (rule : Rule) → slice ≡ all → place_in rule 0 (map seen slice) ≡ None
    → taken rule (map seen all) ≡ None
none_taken {W} all slice seen rule is none =
    taken-none rule (map seen all) 0 (ap (λ (ws : List W). place_in rule 0 (map seen ws)) (sym is) ∙ none)

pub place_within : {W : Type 0} (slice : List W) (seen : W → Watching) (rule : Rule) (i : ℕ) → place_in rule 0 (map seen slice) ≡ Some i
    → i < length slice
place_within slice seen rule i found = omega (arith, (takes_at seen rule slice 0 i found).within)

pub taken_at : {W : Type 0} (all slice new : List W) (first : W) (seen : W → Watching) (rule : Rule) (i : ℕ)
    → slice ≡ all → place_in rule 0 (map seen slice) ≡ Some i → first ≡ get_or all i first → new ≡ remove all i
    → taken rule (map seen all) ≡ Some (seen first, map seen new)
taken_at {W} all slice new first seen rule i is found item left =
    let j : i - 0 ≡ i = omega arith in
    let there : place_in rule 0 (map seen all) ≡ Some i = ap (λ (ws : List W). place_in rule 0 (map seen ws)) (sym is) ∙ found in
    (takes_at seen rule all 0 i there).takes first
    ∙ ap (λ (n : ℕ). Some (seen (get_or all n first), map seen (remove all n))) j
    ∙ ap (λ (w : W). Some (seen w, map seen (remove all i))) (sym item)
    ∙ ap (λ (ws : List W). Some (seen first, map seen ws)) (sym left)

pub tally_at : {W : Type 0} (slice : List W) (item : W) (seen : W → Watching) (rule : Rule) (i : ℕ) → place_in rule 0 (map seen slice) ≡ Some i
    → item ≡ get_or slice i item → option_map (λ found. found.0.tally) (taken rule (map seen slice)) ≡ Some (seen item).tally
tally_at {W} slice item seen rule i found is =
    let j : i - 0 ≡ i = omega arith in
    ap (option_map (λ (found : Watching × List Watching). found.0.tally)) ((takes_at seen rule slice 0 i found).takes item)
    ∙ ap (λ (n : ℕ). Some (seen (get_or slice n item)).tally) j
    ∙ ap (λ (w : W). Some (seen w).tally) (sym is)

pub no_tally : {W : Type 0} (slice : List W) (seen : W → Watching) (rule : Rule) → place_in rule 0 (map seen slice) ≡ None
    → option_map (λ found. found.0.tally) (taken rule (map seen slice)) ≡ None
no_tally slice seen rule none = ap (option_map (λ (found : Watching × List Watching). found.0.tally)) (none_taken slice slice seen rule refl none)

-- A search for the first place, of which the first i watches do not have the rule.
module _ {W : Type 0} (items : List W) (item : W) (seen : W → Watching) (rule : Rule) (i : ℕ) (place : Option ℕ) (lt : i < length items)
    (is : item ≡ get_or items i item) (so_far : place_in rule i (map seen (drop i items)) ≡ place) where
  opened : (b : Bool) → b ≡ is_same (seen item).rule rule
      → cond b (Some i) (place_in rule (i + 1) (map seen (drop (i + 1) items))) ≡ place
  opened b test =
      ap (λ (c : Bool). cond c (Some i) (place_in rule (i + 1) (map seen (drop (i + 1) items)))) test
      ∙ ap (λ (ws : List W). place_in rule i (map seen ws)) (sym (drop-item items i item lt is)) ∙ so_far

  pub next_place : false ≡ is_same (seen item).rule rule → place_in rule (i + 1) (map seen (drop (i + 1) items)) ≡ place
  next_place test = opened false test

  pub found_place : true ≡ is_same (seen item).rule rule → Some i ≡ place
  found_place test = opened true test
