-- A system that was read keeps the form.
use Rattle.std.proofs.Common.{◌≡◌, Ok, arith}
use Rattle.stack_text.{specs.Trees.{Node, IsWellFormed}, proofs.KeepsLaws.holds_at, proofs.WalkLaws.Fitted}
use Rattle.piton_syntax.{specs.Fits.FitsForm, specs.Grammar.system_of, specs.PitonReading.KeepsForm, specs.Printed.tree_of, specs.Systems.SystemOf}
use Rattle.piton_syntax.{proofs.MadeLaws.fits_keeps, proofs.WalkLaws.system_part}

pub read_keeps : (t : Node) (s : SystemOf) → system_of t ≡ Ok s → IsWellFormed t → KeepsForm s
read_keeps t s e form =
    let h = holds_at (Fitted FitsForm tree_of t) (system_of t) s (system_part t).holds e in
    fits_keeps s h.fits (omega (arith, h.size, form.few))
