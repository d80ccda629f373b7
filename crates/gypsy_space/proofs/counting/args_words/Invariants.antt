use Rattle.std.proofs.Common.{drop, map}
use Rattle.gypsy_space.{specs.Needs.args_words, specs.Nodes.seen_arg, specs.StatementNeeds.HasMoreWords}
use Rattle.gypsy_space.proofs.counting.args_words.Given as goal

abbrev pub invariant-loop-arg : goal.invariant-loop-arg
invariant-loop-arg l = HasMoreWords l.words (args_words (map seen_arg (drop l.arg-index l.args))) (args_words (map seen_arg l.args))
