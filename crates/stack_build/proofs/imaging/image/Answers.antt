use Rattle.std.proofs.Common.{◌≡◌, ◌≤◌, ◌^◌, ◌-◌, ◌∙◌, ap, subst, sym, true, ℕ, List, ◌∷◌, arith}
use Rattle.fm_image.specs.Limits.{are_tables}
use Rattle.display_maps.specs.Reading.{space_name}
use Rattle.piton_check.{specs.Instruction.SystemView, specs.Sound.IsSound}
use Rattle.piton_semantics.{specs.Fits.system_in, specs.Placed.placed}
use Rattle.gypsy_syntax.{specs.declared.literal.Decl.Decl, specs.declared.proc.Source.Source, specs.Sources.SourceOf, specs.Views.SourceView.source_of}
use Rattle.stack_build.{specs.Formals.{shown_formals, shown_conditions}, specs.Image.{slots_from, source_tables}, specs.Internal.Showing.HaveShortArrays}
use Rattle.stack_build.{proofs.ImageLimits.{placed_window, generated_shows}, proofs.PartsLaws.{areas_below, end_below, parts_are, parts_fit}}
use Rattle.stack_build.{proofs.TableLaws.tables_fit, proofs.TakesLaws.formals_short}
use Rattle.stack_build.proofs.imaging.image.Goals as goal

pub overflow_cast-result : goal.overflow_cast-result
overflow_cast-result g c = omega (
  arith,
  areas_below c.args.piton.now c.layout_behind-parts.result c.requires.checked c.in_ok-linked.ensures.small
      c.layout_behind-parts.ensures,
)

pub overflow_cast-bottom : goal.overflow_cast-bottom
overflow_cast-bottom g c =
    omega (arith, end_below c.args.piton.now c.layout_behind-parts.result c.requires.checked c.in_ok-linked.ensures.small c.layout_behind-parts.ensures)

pub slots_from-requires : goal.slots_from-requires
slots_from-requires g c =
    let s : SourceOf = source_of c.args.accepted.now in
    let same : source_of c.source-source.result.now ≡ s = ap (λ (t : Source). source_of t) c.source-source.ensures.value in
    let formals : c.shown_formals.result.now ≡ shown_formals s = c.shown_formals.ensures ∙ ap shown_formals same in
    subst HaveShortArrays (sym formals) (formals_short s c.source-source.ensures.accepted)

pub invariant_of-result : goal.invariant_of-result
invariant_of-result g c =
    let linked = c.in_ok-linked.ensures in
    let s : SourceOf = source_of c.args.accepted.now in
    let system : SystemView = system_in c.args.piton.now in
    let generated = c.requires.generated in
    let accepted = c.source-source.ensures.accepted in
    let shows = generated_shows s generated.sizes generated.base system accepted generated.view in
    let fit : are_tables (placed_window system) (source_tables s system) ≡ true =
    subst (λ (v : SystemView). are_tables (placed_window v) (source_tables s v) ≡ true) (sym generated.view)
    (tables_fit s generated.sizes generated.base accepted (subst IsSound generated.view c.requires.checked.sound)
    (subst (λ (v : SystemView). (placed v).size ≤ 2 ^ 20) generated.view linked.small)) in
    let same : source_of c.source-source.result.now ≡ s = ap (λ (t : Source). source_of t) c.source-source.ensures.value in
    let names : c.in_ok-names.field-0.items ≡ shown_conditions s =
    c.in_ok-names.ensures ∙ ap (λ (names : List (List ℕ)). space_name ∷ names) c.formal_conditions.ensures ∙ ap shown_conditions same in
    let slots : c.in_ok-slots_from.field-0.items ≡ slots_from (c.layout_behind-parts.result.end - 1) (shown_formals s) =
    c.in_ok-slots_from.ensures ∙ ap (λ (ds : List Decl). slots_from (c.layout_behind-parts.result.end - 1) ds)
    (c.shown_formals.ensures ∙ ap shown_formals same) in
    let made = c.in_ok-procedures.ensures.tables system generated (rw c.deref.ensures.value linked.places) in
    parts_fit c.args.piton.now (shown_formals s) (shown_conditions s) (source_tables s system) c.requires.checked linked.small shows fit _
    (parts_are c.args.piton.now (shown_formals s) (shown_conditions s) (source_tables s system) c.layout_behind-parts.result
    _ _ _ _ c.layout_behind-parts.ensures (c.linked.view_is ∙ linked.image) names slots made)

pub returns-clause-image : goal.returns-clause-image
returns-clause-image g c =
    let linked = c.in_ok-linked.ensures in
    let s : SourceOf = source_of c.args.accepted.now in
    let system : SystemView = system_in c.args.piton.now in
    let same : source_of c.source-source.result.now ≡ s = ap (λ (t : Source). source_of t) c.source-source.ensures.value in
    let names : c.in_ok-names.field-0.items ≡ shown_conditions s =
    c.in_ok-names.ensures ∙ ap (λ (names : List (List ℕ)). space_name ∷ names) c.formal_conditions.ensures ∙ ap shown_conditions same in
    let slots : c.in_ok-slots_from.field-0.items ≡ slots_from (c.layout_behind-parts.result.end - 1) (shown_formals s) =
    c.in_ok-slots_from.ensures ∙ ap (λ (ds : List Decl). slots_from (c.layout_behind-parts.result.end - 1) ds)
    (c.shown_formals.ensures ∙ ap shown_formals same) in
    let made = c.in_ok-procedures.ensures.tables system c.requires.generated (rw c.deref.ensures.value linked.places) in
    parts_are c.args.piton.now (shown_formals s) (shown_conditions s) (source_tables s system) c.layout_behind-parts.result
    _ _ _ _ c.layout_behind-parts.ensures (c.linked.view_is ∙ linked.image) names slots made
