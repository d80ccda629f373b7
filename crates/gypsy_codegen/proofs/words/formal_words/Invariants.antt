use Rattle.std.proofs.Common.{◌≡◌, ◌++◌, map, drop}
use Rattle.gypsy_codegen.{specs.Internal.Views.nameless, specs.WordsOf.{words_of_values, zero_value}, specs.Written.written_word}
use Rattle.gypsy_codegen.proofs.words.formal_words.Given as goal

abbrev pub invariant-loop-shape : goal.invariant-loop-shape
invariant-loop-shape g l =
    l.words.items ++ map (written_word nameless) (words_of_values (map zero_value (map (λ f. f.1) (drop l.shape-index l.formals)))) ≡
    l.initial.words.items ++ map (written_word nameless) (words_of_values (map zero_value (map (λ f. f.1) l.formals)))
