use Rattle.std.proofs.Common.{drop, map}
use Rattle.gypsy_syntax.specs.Programs.{words_of}
use Rattle.gypsy_space.specs.StatementNeeds.{HasMoreWords}
use Rattle.gypsy_space.proofs.counting.local_words.Given as goal

abbrev pub invariant-loop-value : goal.invariant-loop-value
invariant-loop-value l = HasMoreWords l.words (words_of (map (λ v. v.shape) (map (λ v. v.1) (drop l.value-index l.locals))))
    (words_of (map (λ v. v.shape) (map (λ v. v.1) l.locals)))
