use Rattle.std.proofs.Common.{take, ap, ◌∙◌, arith, refl}
use Rattle.fm_asm.{specs.Cuts.without_trailing, proofs.CutLaws.{same_next, other_next}, proofs.cuts.used.Goals.{then-byte-ne32, else-byte-ne32}}
use Rattle.fm_asm.proofs.cuts.used.Goals as goal

pub loop-at-init : goal.loop-at-init
unfolding without_trailing
loop-at-init c = record { so_far = refl; within = omega arith }

pub loop-at-preserved : goal.loop-at-preserved
loop-at-preserved c = record {
  so_far =
      elim c.if-byte-ne32.branch [
        | then-byte-ne32 w ↦ ap (λ n. take n c.args.bytes.now) w.used-is ∙ other_next 32 c.args.bytes.now c.loop-at.at 0 w.if-byte-ne32.true c.loop-at-test.true
        | else-byte-ne32 w ↦ ap (λ n. take n c.args.bytes.now) w.used-is ∙ same_next 32 c.args.bytes.now c.loop-at.used c.loop-at.at 0
            c.loop-at.invariant.so_far w.if-byte-ne32.false c.loop-at-test.true
      ];
  within = elim c.if-byte-ne32.branch [ then-byte-ne32 w ↦ omega arith | else-byte-ne32 w ↦ omega arith ];
}
