use Rattle.quick_generate.{specs.QuickOf.quick_of, proofs.GivenLaws.quick_stored}
use Rattle.std.proofs.Common.{◌≡◌, ◌∙◌, ap, sym, Some, None}
use Rattle.fm_image.specs.Image.{ImageOf}
use Rattle.gypsy_syntax.{specs.Sources.SourceOf, specs.Views.SourceView.source_of}
use Rattle.gypsy_space.specs.Needs.{StackSizes, stack_sizes}
use Rattle.quick_generate.proofs.generating.quicken.Goals as goal

pub returns-in-Some : goal.returns-in-Some
returns-in-Some g c =
    let s : SourceOf = source_of c.args.accepted.now in
    let sizes : StackSizes = stack_sizes c.args.ctrl c.args.temp in
    let at = ap (λ (image : ImageOf). image.base) c.plain.view_is in
    let found : Some c.in-Some.image ≡ quick_of s sizes c.args.plain.base = sym c.in-Some.is ∙ c.in_ok-image.ensures ∙ ap (quick_of s sizes) at in
    quick_stored s sizes c.args.plain (Some c.in-Some.image) found

pub returns-in-None : goal.returns-in-None
returns-in-None g c =
    let s : SourceOf = source_of c.args.accepted.now in
    let sizes : StackSizes = stack_sizes c.args.ctrl c.args.temp in
    let at = ap (λ (image : ImageOf). image.base) c.plain.view_is in
    let found : None ≡ quick_of s sizes c.args.plain.base = sym c.in-None.is ∙ c.in_ok-image.ensures ∙ ap (quick_of s sizes) at in
    quick_stored s sizes c.args.plain None found
