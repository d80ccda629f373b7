use Rattle.std.proofs.Common.{ap, ◌∙◌, sym, length}
use Rattle.gypsy_codegen.proofs.LabelLaws.{label_front}
use Rattle.gypsy_codegen.proofs.lines.label_named.Goals as goal

pub unplaced-requires : goal.unplaced-requires
unplaced-requires g c =
    label_front c.copy_from_slice.new.self _ (length c.as_bytes-digits.result.now) c.args.label c.ranges.label.fits
    (c.copy_from_slice.ensures.after ∙ c.as_bytes-digits.ensures.value ∙ c.format.ensures.text) (ap length (sym c.copy_from_slice.ensures.after))
