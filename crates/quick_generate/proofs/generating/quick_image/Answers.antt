use Rattle.quick_generate.{specs.QuickOf.{StandsForMain, main_found, quick_of, small_image}, proofs.ChoiceLaws.chosen_few, proofs.GivenLaws.quick_by_main}
use Rattle.quick_generate.proofs.StandsLaws.{found_stands}
use Rattle.std.{proofs.Common.{◌≡◌, ◌∙◌, ap, sym, subst, ℕ, List, Option, Some, None, length, arith}, specs.Prelude.option_map}
use Rattle.stack_heap.specs.Heaps.{IfOkUnless}
use Rattle.fm_image.specs.Image.{ImageOf}
use Rattle.gypsy_syntax.{specs.Programs.Proc, specs.Sources.SourceOf, specs.Views.SourceView.source_of}
use Rattle.gypsy_space.{specs.Needs.{StackSizes, stack_sizes}, specs.Nodes.seen_proc}
use Rattle.quick_generate.proofs.generating.quick_image.Goals as goal

pub choose-requires-clause-few : goal.choose-requires-clause-few
choose-requires-clause-few g c =
    let s : SourceOf = source_of c.args.accepted.now in
    let sizes : StackSizes = stack_sizes c.args.ctrl c.args.temp in
    let p : Proc = seen_proc c.in-Some.main in
    let found : Some p ≡ main_found s sizes = ap (option_map seen_proc) (sym c.in-Some.is) ∙ c.in_ok-main.ensures in
    let stands : StandsForMain s p = found_stands s sizes p c.requires.accepted found in
    omega (arith, ap length (c.as_slice.ensures.value ∙ c.in_ok-variables-in-Some.ensures), stands.few)

pub small_image-requires-clause-main : goal.small_image-requires-clause-main
small_image-requires-clause-main g c =
    let s : SourceOf = source_of c.args.accepted.now in
    let sizes : StackSizes = stack_sizes c.args.ctrl c.args.temp in
    let p : Proc = seen_proc c.in-Some.main in
    let found : Some p ≡ main_found s sizes = ap (option_map seen_proc) (sym c.in-Some.is) ∙ c.in_ok-main.ensures in
    found_stands s sizes p c.requires.accepted found

pub small_image-requires-clause-ten : goal.small_image-requires-clause-ten
small_image-requires-clause-ten g c =
    let few = chosen_few (seen_proc c.in-Some.main) in
    omega (arith, ap (λ (vs : List ℕ). length vs) c.in_ok-chosen-in-Some.ensures, few)

pub returns-in_ok-chosen-in-Some : goal.returns-in_ok-chosen-in-Some
returns-in_ok-chosen-in-Some g c =
    let s : SourceOf = source_of c.args.accepted.now in
    let sizes : StackSizes = stack_sizes c.args.ctrl c.args.temp in
    let p : Proc = seen_proc c.in-Some.main in
    let found : Some p ≡ main_found s sizes = ap (option_map seen_proc) (sym c.in-Some.is) ∙ c.in_ok-main.ensures in
    let same : small_image c.in_ok-chosen-in-Some.chosen.items s p c.args.base ≡ quick_of s sizes c.args.base =
    ap (λ (vs : List ℕ). small_image vs s p c.args.base) c.in_ok-chosen-in-Some.ensures ∙ quick_by_main s sizes c.args.base (Some p) found in
    subst (λ (x : Option ImageOf). IfOkUnless (g.H.Heap.may_refuse c.args.heap) c.small_image.result (λ found. found ≡ x)) same c.small_image.ensures

pub returns-in-None : goal.returns-in-None
returns-in-None g c =
    let s : SourceOf = source_of c.args.accepted.now in
    let sizes : StackSizes = stack_sizes c.args.ctrl c.args.temp in
    let found : None ≡ main_found s sizes = ap (option_map seen_proc) (sym c.in-None.is) ∙ c.in_ok-main.ensures in
    quick_by_main s sizes c.args.base None found
