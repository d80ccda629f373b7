-- What is stored of a program is read again, breaks no static rule, and means what the program does.
use Rattle.std.{proofs.Common.{◌≡◌, ◌≤◌, ℕ, ◌+◌, ◌*◌, List, length, subst, ◌∙◌, arith}, specs.Prelude.◌^◌}
use Rattle.stack_text.{specs.declared.shape.Shape.Shape, specs.Trees.node_count}
use Rattle.gypsy_syntax.{specs.GypsyReading.KeepsForm, specs.Printed.tree_of, specs.Resolved.program_of, specs.ValuesFit.VarsFit, proofs.MadeLaws.fits_keeps}
use Rattle.gypsy_syntax.{proofs.ReadAgainLaws.gypsy_text_reads, proofs.SizeLaws.text_over}
use Rattle.gypsy_syntax.specs.Programs as gypsy
use Rattle.mini_syntax.{specs.MiniReading.IsFaultless, specs.Breaches.{body_of, declared_of}, specs.declared.program.Declared.Declared}
use Rattle.mini_syntax.{specs.Grammar.InfixProgram, specs.Language.Stmt, specs.Lawful.IsLawful, proofs.LimitLaws.free_is_lawful}
use Rattle.mini_gypsy.{specs.Lowered.lowered, proofs.FormLaws.{lowered_fits, lowered_small}, proofs.MeaningLaws.lowered_means, proofs.RuleLaws.lowered_clean}
use Rattle.mini_gypsy.{proofs.TextLaws.lowered_short, specs.Stored.{source_for, MeansAlways, StandsFor, stored_text}, proofs.BareLaws.bare_program}
use Rattle.mini_gypsy.{proofs.BareLaws.{same_meaning, same_shapes}, proofs.PlaceLaws.bare_same, proofs.BareRuleLaws.none_broken}

lowered_keeps : (ds : List Declared) (s : Stmt) → IsLawful ds s → KeepsForm (lowered ds s)
lowered_keeps ds s lawful =
    let few : node_count (tree_of (lowered ds s)) ≤ 2 ^ 31 = omega (arith, text_over (lowered ds s), lowered_small ds s lawful) in
    fits_keeps (lowered ds s) (lowered_fits ds s lawful) few

-- a program that differs from another in places alone means what that means
means_again : (q r : gypsy.Program) (s : Stmt) → bare_program q ≡ bare_program r → MeansAlways r s → MeansAlways q s
means_again q r s same means sizes v n fits =
    same_meaning q r same sizes v n ∙ means sizes v n (subst (λ (shapes : List Shape). VarsFit shapes v) (same_shapes q r same) fits)

pub stands : (text : List ℕ) (program : InfixProgram) → length text ≤ 2 ^ 20 → IsFaultless text program → StandsFor (stored_text program) program
stands text program few is =
    let ds = declared_of program in
    let body = body_of program in
    let lawful = (free_is_lawful text program is.read.program few is.read.free is.clean).lawful in
    let source = source_for program in
    let again = gypsy_text_reads source (lowered_keeps ds body lawful) in
    record {
      source = again.0;
      read = again.1;
      rules = none_broken again.0 source again.2 (lowered_clean ds body lawful);
      same = again.2;
      means = means_again (program_of again.0) (program_of source) body (bare_same again.0 source again.2) (lowered_means ds body lawful);
    }

pub stored_short : (text : List ℕ) (program : InfixProgram) → length text ≤ 2 ^ 20 → IsFaultless text program
    → length (stored_text program) ≤ 60 * length text + 2000
stored_short text program few is =
    let short = free_is_lawful text program is.read.program few is.read.free is.clean in
    let whole = lowered_short (declared_of program) (body_of program) short.lawful in
    omega (arith, whole, short.short)
