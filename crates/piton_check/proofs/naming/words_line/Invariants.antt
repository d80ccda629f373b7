use Rattle.std.{proofs.Common.{◌≡◌, ◌++◌, ◌∷◌, drop}, specs.List.flat_map}
use Rattle.piton_check.specs.NamedWords.{word_text}
use Rattle.piton_check.proofs.naming.words_line.Given as goal

-- the text so far, and that of the words that are left, are that of all
abbrev pub invariant-loop-word : goal.invariant-loop-word
invariant-loop-word g l =
    l.out.items ++ flat_map (λ word. 32 ∷ word_text l.system word) (drop l.word-index l.words)
    ≡ l.initial.out.items ++ flat_map (λ word. 32 ∷ word_text l.system word) l.words
