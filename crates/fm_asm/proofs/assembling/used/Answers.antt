use Rattle.std.proofs.Common.{take, ap, ◌∙◌, refl}
use Rattle.fm_asm.{specs.Cuts.without_trailing, proofs.CutLaws.{same_next, other_next}, proofs.assembling.used.Goals.{then-word-ne0, else-word-ne0}}
use Rattle.fm_asm.proofs.assembling.used.Goals as goal

pub loop-at-preserved : goal.loop-at-preserved
loop-at-preserved c =
    let words = c.args.words.now in
    let k = c.loop-at.at in
    elim c.if-word-ne0.branch [
      | then-word-ne0 w ↦ ap (λ n. take n words) w.used-is ∙ other_next 0 words k 0 w.if-word-ne0.true c.loop-at-test.true
      | else-word-ne0 w ↦ ap (λ n. take n words) w.used-is ∙ same_next 0 words c.loop-at.used k 0 c.loop-at.invariant w.if-word-ne0.false c.loop-at-test.true
    ]

pub loop-at-init : goal.loop-at-init
unfolding without_trailing
loop-at-init c = refl
