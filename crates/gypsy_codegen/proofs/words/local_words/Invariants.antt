use Rattle.std.proofs.Common.{◌≡◌, ◌++◌, map, drop}
use Rattle.gypsy_codegen.{specs.Internal.Views.nameless, specs.WordsOf.words_of_values, specs.Written.written_word}
use Rattle.gypsy_codegen.proofs.words.local_words.Given as goal

abbrev pub invariant-loop-value : goal.invariant-loop-value
invariant-loop-value g l =
    l.words.items ++ map (written_word nameless) (words_of_values (map (λ v. v.1) (drop l.value-index l.locals))) ≡
    l.initial.words.items ++ map (written_word nameless) (words_of_values (map (λ v. v.1) l.locals))
