-- Loops over a list, of which some items were taken and the others are left.
use Rattle.std.{proofs.Common.{◌≡◌, ◌<◌, ◌+◌, ℕ, List, ◌∷◌, ◌++◌, length, drop, get_or, sym, ap, ◌∙◌, append_assoc}, specs.List.flat_map}
use Rattle.std.proofs.lemmas.List.{drop_more}

-- what is left begins with the item at hand
pub drop-item : {X : Type 0} (xs : List X) (n : ℕ) (x : X) → n < length xs → x ≡ get_or xs n x → drop n xs ≡ x ∷ drop (n + 1) xs
drop-item {X} xs n x lt is = drop_more xs n x lt ∙ ap (λ (y : X). y ∷ drop (n + 1) xs) (sym is)

-- a piece is appended: it, and those of what is left, after what is there
pub pieces_next : {X Y : Type 0} (f : X → List Y) (xs : List X) (n : ℕ) (x : X) (old new all : List Y) → n < length xs → x ≡ get_or xs n x → new ≡ old ++ f x
    → old ++ flat_map f (drop n xs) ≡ all → new ++ flat_map f (drop (n + 1) xs) ≡ all
pieces_next {X} {Y} f xs n x old new all lt is now so_far =
    rw now (append_assoc old (f x) (flat_map f (drop (n + 1) xs)))
    ∙ ap (λ (ws : List Y). old ++ ws) (ap (flat_map f) (sym (drop-item xs n x lt is)))
    ∙ so_far
