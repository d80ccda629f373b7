use Rattle.std.{proofs.Common.{◌≡◌, take}, specs.Prelude.sum_by}
use Rattle.piton_linker.proofs.sizes.total.Given as goal

-- the words so far
abbrev pub invariant-loop-part : goal.invariant-loop-part
invariant-loop-part g l = l.sum ≡ sum_by g.T.TakesWords.words (take l.part-index l.parts)
