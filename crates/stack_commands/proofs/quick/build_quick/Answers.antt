use Rattle.std.proofs.Common.{◌≡◌, ◌∙◌, ap, arith}
use Rattle.gypsy_syntax.specs.Views.SourceView.{source_of}
use Rattle.stack_build.{proofs.BuildLaws.text_builds, proofs.InsideLaws.built_at_base}
use Rattle.stack_commands.proofs.quick.build_quick.Goals as goal

pub quicken-requires-clause-base : goal.quicken-requires-clause-base
quicken-requires-clause-base g c =
    let text = c.args.text.now in
    let made = text_builds text c.args.ctrl c.args.temp 0 (source_of c.in_ok-accepted.accepted) c.in_ok-accepted.ensures ∙ c.in_ok-built.ensures.value in
    let at : c.in_ok-built.built.image.base ≡ 0 = built_at_base text c.args.ctrl c.args.temp 0 c.in_ok-built.built made in
    omega (arith, ap (λ i. i.base) c.into_image-plain.ensures, at)
