use Rattle.std.{proofs.Common.{map, arith}, proofs.lemmas.List.drop_all}
use Rattle.gypsy_space.{specs.Needs.args_words, specs.Nodes.seen_arg, proofs.CappedLaws.no_more_words}
use Rattle.gypsy_space.proofs.counting.args_words.Goals as goal

pub returns : goal.returns
returns c =
    no_more_words c.loop-arg.words (args_words (map seen_arg c.args.args.now))
    (rw (drop_all c.loop-arg.arg-index c.args.args.now (omega (arith, c.loop-arg-test.false))) at c.loop-arg.invariant)
