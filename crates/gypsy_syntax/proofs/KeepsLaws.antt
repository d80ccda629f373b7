-- A source that was read keeps the form.
use Rattle.std.proofs.Common.{◌≡◌, Ok, arith}
use Rattle.stack_text.{specs.Trees.{Node, IsWellFormed}, proofs.KeepsLaws.holds_at}
use Rattle.gypsy_syntax.{specs.Grammar.source_in, specs.GypsyReading.KeepsForm, specs.Sources.SourceOf, proofs.MadeLaws.fits_keeps}
use Rattle.gypsy_syntax.proofs.WalkLaws.{FittedSource, source_part}

pub read_keeps : (t : Node) (s : SourceOf) → source_in t ≡ Ok s → IsWellFormed t → KeepsForm s
read_keeps t s e form =
    let h = holds_at (FittedSource t) (source_in t) s (source_part t).holds e in
    fits_keeps s (h.fits form.shallow) (omega (arith, h.size, form.few))
