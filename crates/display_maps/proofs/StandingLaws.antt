-- What is read of a run where it stands, word by word.
use Rattle.std.proofs.Common.{◌≡◌, ◌+◌, ◌++◌, ◌∙◌, ℕ, suc, List, [], ◌∷◌, map, Option, Some, None, option_map, refl, sym, ap, append_assoc}
use Rattle.stack_text.specs.Options.{◌>>=◌}
use Rattle.fm_image.specs.declared.procedure.VarInfo.{VarInfo}
use Rattle.display_maps.{specs.declared.shown.Shown.Shown, specs.ReadingAt.{StandingOf, ItemsOf, words_below, items_at, variables_at}}

-- what is read, and what is still to come behind it
abbrev pub joined : {A : Type 0} → List A → Option (List A) → Option (List A)
joined read rest = option_map (λ more. read ++ more) rest

-- ---- items, one after the other

module _ (s : StandingOf) (f : ℕ → Shown) where
  -- the items of so many words from there downwards
  abbrev pub items_from : ℕ → ℕ → Option (List Shown)
  items_from k n = option_map (map f) (words_below s k n)

  -- one that is there
  pub item_there : (items : List Shown) (k n word : ℕ) (all : Option (List Shown)) → s.below k ≡ Some word → joined items (items_from k (suc n)) ≡ all
      → joined (items ++ f word ∷ []) (items_from (k + 1) n) ≡ all
  item_there items k n word all is so_far =
      by_rest (words_below s (k + 1) n)
      ∙ ap (λ (o : Option ℕ). joined items (option_map (map f) (o >>= λ w. words_below s (k + 1) n >>= λ ws. Some (w ∷ ws)))) (sym is) ∙ so_far
    where
      by_rest : (o : Option (List ℕ)) → joined (items ++ f word ∷ []) (option_map (map f) o) ≡ joined items (option_map (map f) (o >>= λ ws. Some (word ∷ ws)))
      by_rest None = refl
      by_rest (Some ws) = ap Some (append_assoc items (f word ∷ []) (map f ws))

  -- one that is not there
  pub item_missing : (items : List Shown) (k n : ℕ) (all : Option (List Shown)) → s.below k ≡ None → joined items (items_from k (suc n)) ≡ all → None ≡ all
  item_missing items k n all is so_far =
      ap (λ (o : Option ℕ). joined items (option_map (map f) (o >>= λ w. words_below s (k + 1) n >>= λ ws. Some (w ∷ ws)))) (sym is) ∙ so_far

-- ---- variables, one after the other

module _ (s : StandingOf) where
  pub variable_missing : (read : List ItemsOf) (v : VarInfo) (vs : List VarInfo) (all : Option (List ItemsOf)) → items_at s v ≡ None
      → joined read (variables_at s (v ∷ vs)) ≡ all → None ≡ all
  variable_missing read v vs all is so_far = ap
      (λ (o : Option (List Shown)). joined read (o >>= λ items. variables_at s vs >>= λ others. Some ((v.name, v.shape, items) ∷ others))) (sym is)
      ∙ so_far
