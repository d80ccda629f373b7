use Rattle.std.proofs.Common.{◌≡◌, ◌+◌, drop}
use Rattle.gypsy_syntax.specs.Programs.{words_of}
use Rattle.quick_generate.proofs.frame.words_of.Given as goal

abbrev pub invariant-loop-shape : goal.invariant-loop-shape
invariant-loop-shape l = l.words + words_of (drop l.shape-index l.shapes) ≡ words_of l.shapes
