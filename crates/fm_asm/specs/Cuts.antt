-- Cutting bytes into parts. A byte is given by its code.
use Rattle.std.specs.Prelude.{ℕ, List, [], ◌∷◌, Option, Some, None, ◌==◌, if◌then◌else◌, option_map}

-- what stands before a byte; and what stands after it, if it is there
abbrev pub Cut : Type 0
Cut = List ℕ × Option (List ℕ)

abbrev pub in_front : ℕ → Cut → Cut
in_front b parts = (b ∷ parts.0, parts.1)

-- cut at the first such byte
unfoldable pub cut : ℕ → List ℕ → Cut
cut byte [] = ([], None)
cut byte (b ∷ bs) = if b == byte then ([], Some bs) else in_front b (cut byte bs)

abbrev pub parts_of : Cut → Option (List ℕ × List ℕ)
parts_of parts = option_map (λ rest. (parts.0, rest)) parts.1

-- the parts before and after the first such byte, if it is there
unfoldable pub split_once : ℕ → List ℕ → Option (List ℕ × List ℕ)
split_once byte bytes = parts_of (cut byte bytes)

-- what stands after a prefix, if the bytes begin with it
unfoldable pub after_prefix : List ℕ → List ℕ → Option (List ℕ)
after_prefix [] bytes = Some bytes
after_prefix (p ∷ ps) [] = None
after_prefix (p ∷ ps) (b ∷ bs) = if b == p then after_prefix ps bs else None

-- without the spaces at the front
unfoldable pub without_leading_spaces : List ℕ → List ℕ
without_leading_spaces [] = []
without_leading_spaces (b ∷ bs) = if b == 32 then without_leading_spaces bs else b ∷ bs

abbrev pub unless_trailing : ℕ → ℕ → List ℕ → List ℕ
unless_trailing item x [] = if x == item then [] else x ∷ []
unless_trailing item x (y ∷ ys) = x ∷ y ∷ ys

-- without the items at the end that are this one
unfoldable pub without_trailing : ℕ → List ℕ → List ℕ
without_trailing item [] = []
without_trailing item (x ∷ xs) = unless_trailing item x (without_trailing item xs)

-- without the spaces at both ends
unfoldable pub trimmed : List ℕ → List ℕ
trimmed bytes = without_trailing 32 (without_leading_spaces bytes)
