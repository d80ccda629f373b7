use Rattle.std.proofs.Common.{◌≡◌, ◌+◌, ◌*◌, ◌≤◌, ◌^◌, drop}
use Rattle.gypsy_codegen.specs.Internal.Views.{AreModest, words_together}
use Rattle.gypsy_codegen.proofs.generating.words_together.Given as goal

abbrev pub invariant-loop-need : goal.invariant-loop-need
invariant-loop-need l = record {
  words : l.words + words_together (drop l.need-index l.needs) ≡ words_together l.needs;
  modest : AreModest (drop l.need-index l.needs);
  bounded : l.words ≤ 2 ^ 50 * l.need-index;
}
