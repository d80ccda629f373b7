-- Lists of words that follow one another, as the areas of a program and the templates of its code do.
use Rattle.std.specs.Prelude.{ℕ, zero, suc, ◌+◌, List, [], ◌∷◌, ◌++◌, length}

-- the words of all lists, in order
abbrev pub joined : List (List ℕ) → List ℕ
joined [] = []
joined (xs ∷ xss) = xs ++ joined xss

-- how many words come before the list of this number
abbrev pub words_before : List (List ℕ) → ℕ → ℕ
words_before xss zero = 0
words_before [] (suc a) = 0
words_before (xs ∷ xss) (suc a) = length xs + words_before xss a
