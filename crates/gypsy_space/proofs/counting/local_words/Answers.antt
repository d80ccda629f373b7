use Rattle.std.{proofs.Common.{map, arith}, proofs.lemmas.List.drop_all}
use Rattle.gypsy_syntax.specs.Programs.{words_of}
use Rattle.gypsy_space.proofs.CappedLaws.{no_more_words}
use Rattle.gypsy_space.proofs.counting.local_words.Goals as goal

pub returns : goal.returns
returns c =
    no_more_words c.loop-value.words (words_of (map (λ v. v.shape) (map (λ v. v.1) c.args.locals.now)))
    (rw (drop_all c.loop-value.value-index c.args.locals.now (omega (arith, c.loop-value-test.false))) at c.loop-value.invariant)
