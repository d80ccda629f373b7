use Rattle.std.proofs.Common.{◌≡◌, ◌≤◌, ◌^◌, [], sym, subst, ap, ◌∙◌, arith}
use Rattle.stack_text.{specs.Breaches.least, specs.Trees.node_count}
use Rattle.gypsy_syntax.{specs.GypsyReading.KeepsForm, specs.Printed.tree_of, specs.Views.SourceView.source_of}
use Rattle.gypsy_check.specs.Rules.{violations}
use Rattle.mini_gypsy.{specs.Lowered.lowered, proofs.FormLaws.{lowered_fits, lowered_small}, proofs.RuleLaws.lowered_clean}
use Rattle.mini_syntax.specs.ProgramView.{block_in}
use Rattle.mini_gypsy.proofs.lowering.lower_program.Goals as goal

pub check-requires : goal.check-requires
check-requires g c =
    let ds = c.args.program.now.declared.items in
    let s = block_in c.args.program.now.body.items in
    let small : node_count (tree_of (lowered ds s)) ≤ 2 ^ 31 =
    omega (arith, c.plain_form.ensures.counted (lowered ds s), lowered_small ds s c.requires.lawful) in
    subst KeepsForm (sym c.in_ok-source.ensures) (c.plain_form.ensures.keeps (lowered ds s) (lowered_fits ds s c.requires.lawful) small)

pub unreachable-requires : goal.unreachable-requires
unreachable-requires g c =
    let ds = c.args.program.now.declared.items in
    let s = block_in c.args.program.now.body.items in
    let clean : violations (source_of c.in_ok-source.source) ≡ [] = ap violations c.in_ok-source.ensures ∙ lowered_clean ds s c.requires.lawful in
    let found = rw c.in-Err-Violation.field-0-is at c.in-Err-Violation.ensures.least in
    let both = sym (ap least clean) ∙ found in
    cc
