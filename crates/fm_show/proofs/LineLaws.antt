-- Numbered lines, one after another.
use Rattle.std.proofs.Common.{◌≡◌, ℕ, ◌+◌, ◌<◌, ◌≤◌, List, ◌∷◌, ◌++◌, length, drop, get_or, sym, ap, ◌∙◌, append-nil, append_assoc}
use Rattle.std.proofs.lemmas.List.{drop_more, drop_all}
use Rattle.fm_show.specs.Listing.{numbered_lines}

-- one line more
pub lines_next : (line : ℕ → ℕ → List ℕ) (words : List ℕ) (i number next word : ℕ) (old new all : List ℕ) → i < length words → next ≡ number + 1
    → word ≡ get_or words i 0
    → new ≡ old ++ line number word → old ++ numbered_lines line number (drop i words) ≡ all → new ++ numbered_lines line next (drop (i + 1) words) ≡ all
unfolding numbered_lines
lines_next line words i number next word old new all lt up is more so_far =
    let begins : drop i words ≡ word ∷ drop (i + 1) words = drop_more words i 0 lt ∙ ap (λ (w : ℕ). w ∷ drop (i + 1) words) (sym is) in
    rw (more, up) (append_assoc old (line number word) (numbered_lines line (number + 1) (drop (i + 1) words)))
    ∙ ap (λ (ws : List ℕ). old ++ numbered_lines line number ws) (sym begins) ∙ so_far

-- no line is left
pub lines_end : (line : ℕ → ℕ → List ℕ) (words : List ℕ) (i number : ℕ) (text all : List ℕ) → length words ≤ i
    → text ++ numbered_lines line number (drop i words) ≡ all → text ≡ all
unfolding numbered_lines
lines_end line words i number text all past so_far =
    sym (ap (λ (ws : List ℕ). text ++ numbered_lines line number ws) (drop_all i words past) ∙ append-nil text) ∙ so_far
