-- The locals of a frame, one by one.
use Rattle.std.proofs.Common.{◌≡◌, ◌≤◌, ◌+◌, ℕ, List, [], ◌∷◌, ◌++◌, length, drop, Some, None, refl, sym, ap, ◌∙◌, append_assoc, append-nil, ⊎_elim}
use Rattle.std.{specs.Prelude.slice_get, proofs.lemmas.List.drop_all, proofs.lemmas.Option.{get_or_from_slice_get, none-some, slice_get_cases}}
use Rattle.std.proofs.lemmas.Option.{slice_get_within}
use Rattle.stack_text.proofs.Loops.{drop-item}
use Rattle.piton_words.specs.declared.word.Word.{Word}
use Rattle.piton_syntax.specs.Systems.{SystemOf}
use Rattle.level_debuggers.specs.PitonLevels.{local_line, local_lines}

-- what is left begins with the item that is found there
pub drop-found : {X : Type 0} (xs : List X) (k : ℕ) (x : X) → slice_get xs k ≡ Some x → drop k xs ≡ x ∷ drop (k + 1) xs
drop-found xs k x at = drop-item xs k x (slice_get_within xs k x at) (sym (get_or_from_slice_get xs k x x at))

-- without words there are no lines
no_lines : (system : SystemOf) (names : List (List ℕ)) → local_lines system names [] ≡ []
unfolding local_lines
no_lines system [] = refl
no_lines system (name ∷ names) = refl

-- a name or a word that isn't there: none is left
drop-past : {X : Type 0} (xs : List X) (k : ℕ) → slice_get xs k ≡ None → drop k xs ≡ []
drop-past xs k at = ⊎_elim (λ p. absurd (none-some p.0 (sym at ∙ p.2))) (λ p. drop_all k xs p.0) (slice_get_cases xs k).1

module _ (system : SystemOf) (names : List (List ℕ)) (words : List Word) (k : ℕ) (old all : List ℕ)
    (so_far : old ++ local_lines system (drop k names) (drop k words) ≡ all) where
  pub next_local : (new name : List ℕ) (word : Word) → slice_get names k ≡ Some name → slice_get words k ≡ Some word
      → new ≡ old ++ local_line system name word
      → new ++ local_lines system (drop (k + 1) names) (drop (k + 1) words) ≡ all
  unfolding local_lines
  next_local new name word at here more =
      rw more (append_assoc old (local_line system name word) (local_lines system (drop (k + 1) names) (drop (k + 1) words)))
      ∙ ap (λ (ns : List (List ℕ)). old ++ local_lines system ns (word ∷ drop (k + 1) words)) (sym (drop-found names k name at))
      ∙ ap (λ (ws : List Word). old ++ local_lines system (drop k names) ws) (sym (drop-found words k word here))
      ∙ so_far

  pub no_name : slice_get names k ≡ None → old ≡ all
  unfolding local_lines
  no_name at =
      sym (append-nil old) ∙ ap (λ (ns : List (List ℕ)). old ++ local_lines system ns (drop k words)) (sym (drop-past names k at)) ∙ so_far

  pub no_word : length words ≤ k → old ≡ all
  no_word le =
      sym (append-nil old) ∙ ap (λ (text : List ℕ). old ++ text) (sym (no_lines system (drop k names)))
      ∙ ap (λ (ws : List Word). old ++ local_lines system (drop k names) ws) (sym (drop_all k words le)) ∙ so_far
