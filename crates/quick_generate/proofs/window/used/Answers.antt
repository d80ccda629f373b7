use Rattle.std.proofs.Common.{take, ap, ◌∙◌}
use Rattle.piton_linker.proofs.TrimLaws.{zero_next, word_next}
use Rattle.quick_generate.proofs.window.used.Goals.{then-word-ne0, else-word-ne0}
use Rattle.quick_generate.proofs.window.used.Goals as goal

pub loop-at-preserved : goal.loop-at-preserved
loop-at-preserved c =
    let ws = c.args.words.now in
    let k = c.loop-at.at in
    elim c.if-word-ne0.branch [
      | then-word-ne0 w ↦ ap (λ n. take n ws) w.used-is ∙ word_next ws k 0 w.if-word-ne0.true c.loop-at-test.true
      | else-word-ne0 w ↦ ap (λ n. take n ws) w.used-is ∙ zero_next ws c.loop-at.used k 0 c.loop-at.invariant w.if-word-ne0.false c.loop-at-test.true
    ]
