use Rattle.std.{proofs.Common.{◌≡◌, ◌≤◌, ◌^◌, sym, subst, ap, ◌∙◌, arith}, specs.Prelude.codes}
use Rattle.stack_text.{specs.Grammar.Printed.unplaced, specs.Trees.node_count}
use Rattle.gypsy_check.specs.Rules.{violations}
use Rattle.gypsy_syntax.{specs.GypsyReading.KeepsForm, specs.Printed.tree_of}
use Rattle.gypsy_gen.{specs.Large.large_of, proofs.FormLaws.{large_fits, large_small}, proofs.RuleLaws.large_clean}
use Rattle.gypsy_gen.proofs.making.large.Goals as goal

pub returns-clause-form : goal.returns-clause-form
returns-clause-form g c =
    let s = large_of c.args.number c.args.size in
    let small : node_count (tree_of s) ≤ 2 ^ 31 = omega (arith, c.plain_form.ensures.counted s, large_small c.args.number c.args.size c.requires.high) in
    let main : c.in_ok-unplaced.field-0 ≡ unplaced (codes "main") = c.in_ok-unplaced.ensures ∙ ap unplaced c.as_slice.ensures in
    subst KeepsForm (sym (λ i. record { place = 0; main = main i; procs = c.in_ok-procedures.ensures i }))
    (c.plain_form.ensures.keeps s (large_fits c.args.number c.args.size c.requires.low c.requires.high) small)

pub returns-clause-rules : goal.returns-clause-rules
returns-clause-rules g c =
    let main : c.in_ok-unplaced.field-0 ≡ unplaced (codes "main") = c.in_ok-unplaced.ensures ∙ ap unplaced c.as_slice.ensures in
    (λ i. violations record { place = 0; main = main i; procs = c.in_ok-procedures.ensures i })
    ∙ large_clean c.args.number c.args.size c.requires.high
