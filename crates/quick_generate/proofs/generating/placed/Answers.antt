use Rattle.quick_generate.{specs.QuickOf.whole_image, proofs.ImageLaws.{quick_fits, window_few}, proofs.PlacedLaws.{IsHere, conds_few, ends, ends_low}}
use Rattle.quick_generate.proofs.PlacedLaws.{final_is, image_made, registers_are, window_words}
use Rattle.std.{proofs.Common.{◌≡◌, ◌≤◌, ◌+◌, ◌*◌, ◌-◌, ◌∙◌, ap, subst, sym, ℕ, List, ◌∷◌, length, arith}, specs.Prelude.IsTrue, proofs.lemmas.Bool.and_from}
use Rattle.std.proofs.lemmas.Bool.{le-leb, lt-ltb}
use Rattle.fm_image.{specs.Image.ImageOf, specs.Limits.is_image}
use Rattle.display_maps.specs.Reading.{space_name}
use Rattle.gypsy_syntax.{specs.declared.literal.Decl.Decl, specs.declared.proc.Source.Source, specs.Sources.SourceOf, specs.Views.SourceView.source_of}
use Rattle.gypsy_space.specs.Nodes.{seen_proc}
use Rattle.stack_build.{specs.Formals.{shown_formals, shown_conditions}, specs.Image.slots_from, specs.Internal.Showing.HaveShortArrays}
use Rattle.stack_build.proofs.TakesLaws.{formals_short}
use Rattle.quick_generate.proofs.generating.placed.Goals as goal

pub small_size-requires : goal.small_size-requires
small_size-requires g c =
    let h : IsHere c.args.frame.now c.args.main.now (source_of c.args.accepted.now) c.args.base =
    record {
      accepted = c.requires.accepted;
      stands = c.requires.main;
      shapes = c.requires.shapes;
      end = c.requires.end;
      small = c.requires.small;
      low = c.requires.base;
    } in
    omega (arith, ends _ _ _ _ h, ends_low _ _ _ _ h)

pub overflow_add-behind : goal.overflow_add-behind
overflow_add-behind g c =
    let h : IsHere c.args.frame.now c.args.main.now (source_of c.args.accepted.now) c.args.base =
    record {
      accepted = c.requires.accepted;
      stands = c.requires.main;
      shapes = c.requires.shapes;
      end = c.requires.end;
      small = c.requires.small;
      low = c.requires.base;
    } in
    omega (arith, ends _ _ _ _ h, ends_low _ _ _ _ h, c.len-conds.ensures, c.small_size.ensures)

pub code-requires-clause-conds : goal.code-requires-clause-conds
code-requires-clause-conds g c = conds_few (source_of c.args.accepted.now) (seen_proc c.args.main.now) c.requires.accepted c.requires.main

pub code-requires-clause-fits : goal.code-requires-clause-fits
code-requires-clause-fits g c =
    let h : IsHere c.args.frame.now c.args.main.now (source_of c.args.accepted.now) c.args.base =
    record {
      accepted = c.requires.accepted;
      stands = c.requires.main;
      shapes = c.requires.shapes;
      end = c.requires.end;
      small = c.requires.small;
      low = c.requires.base;
    } in
    omega (arith, ends _ _ _ _ h, ends_low _ _ _ _ h)

pub bare_image-bare-requires-clause-inside : goal.bare_image-bare-requires-clause-inside
bare_image-bare-requires-clause-inside g c =
    let h : IsHere c.args.frame.now c.args.main.now (source_of c.args.accepted.now) c.args.base =
    record {
      accepted = c.requires.accepted;
      stands = c.requires.main;
      shapes = c.requires.shapes;
      end = c.requires.end;
      small = c.requires.small;
      low = c.requires.base;
    } in
    let base : ℕ = c.args.base in
    let behind : ℕ = base + 6 * (2 + c.len-conds.result) + c.small_size.result in
    let low : base ≤ behind = omega arith in
    and_from _ _ (le-leb base behind low)
    (lt-ltb behind (base + (c.args.frame.now.end - base)) (omega (arith, ends _ _ _ _ h, c.len-conds.ensures, c.small_size.ensures)))

pub bare_image-bare-requires-clause-few : goal.bare_image-bare-requires-clause-few
bare_image-bare-requires-clause-few g c =
    let h : IsHere c.args.frame.now c.args.main.now (source_of c.args.accepted.now) c.args.base =
    record {
      accepted = c.requires.accepted;
      stands = c.requires.main;
      shapes = c.requires.shapes;
      end = c.requires.end;
      small = c.requires.small;
      low = c.requires.base;
    } in
    let words = window_words _ _ _ _ _ _ _ h c.in_ok-code.ensures c.in_ok-numbers.ensures c.in_ok-words.ensures in
    let few = window_few c.args.frame.now.chosen.items (source_of c.args.accepted.now) (seen_proc c.args.main.now) c.args.base c.requires.accepted
    c.requires.main in
    omega (arith, ap (λ (ws : List ℕ). length ws) words, few, c.requires.end)

pub overflow_add-result : goal.overflow_add-result
overflow_add-result g c =
    let h : IsHere c.args.frame.now c.args.main.now (source_of c.args.accepted.now) c.args.base =
    record {
      accepted = c.requires.accepted;
      stands = c.requires.main;
      shapes = c.requires.shapes;
      end = c.requires.end;
      small = c.requires.small;
      low = c.requires.base;
    } in
    omega (arith, ends _ _ _ _ h, ends_low _ _ _ _ h, c.len-conds.ensures, c.small_size.ensures)

pub slots_from-requires : goal.slots_from-requires
slots_from-requires g c =
    let s : SourceOf = source_of c.args.accepted.now in
    let same : source_of c.source-source.result.now ≡ s = ap (λ (t : Source). source_of t) c.source-source.ensures.value in
    let formals : c.shown_formals.result.now ≡ shown_formals s = c.shown_formals.ensures ∙ ap shown_formals same in
    subst HaveShortArrays (sym formals) (formals_short s c.requires.accepted)

pub invariant_of-result : goal.invariant_of-result
invariant_of-result g c =
    let s : SourceOf = source_of c.args.accepted.now in
    let frame = c.args.frame.now in
    let main = c.args.main.now in
    let base : ℕ = c.args.base in
    let h : IsHere frame main s base =
    record {
      accepted = c.requires.accepted;
      stands = c.requires.main;
      shapes = c.requires.shapes;
      end = c.requires.end;
      small = c.requires.small;
      low = c.requires.base;
    } in
    let same : source_of c.source-source.result.now ≡ s = ap (λ (t : Source). source_of t) c.source-source.ensures.value in
    let names : c.in_ok-condition_names.field-0.items ≡ shown_conditions s =
    c.in_ok-condition_names.ensures ∙ ap (λ (names : List (List ℕ)). space_name ∷ names) c.formal_conditions.ensures ∙ ap shown_conditions same in
    let slots : c.in_ok-slots_from.field-0.items ≡ slots_from (frame.end - 1) (shown_formals s) =
    c.in_ok-slots_from.ensures ∙ ap (λ (ds : List Decl). slots_from (frame.end - 1) ds) (c.shown_formals.ensures ∙ ap shown_formals same) in
    let count : c.len-conds.result ≡ length main.conds.items = omega (arith, c.len-conds.ensures) in
    let made = image_made frame main s base (base + 6 * (2 + c.len-conds.result) + c.small_size.result) _ _ _ _ _ h
    (final_is frame main s base c.len-conds.result c.small_size.result h count c.small_size.ensures)
    (registers_are frame main s base c.len-conds.result _ h count c.in_ok-registers.ensures)
    (window_words frame main s base _ _ _ h c.in_ok-code.ensures c.in_ok-numbers.ensures c.in_ok-words.ensures)
    (c.bare.view_is ∙ c.bare_image-bare.ensures) names slots in
    let small = c.requires.small in
    let end = c.requires.end in
    subst (λ (image : ImageOf). IsTrue (is_image image)) (sym made)
    (quick_fits c.args.frame.now.chosen.items s (seen_proc main) c.args.base c.requires.accepted c.requires.main c.requires.base (omega (arith, small, end)))

pub returns : goal.returns
returns g c =
    let s : SourceOf = source_of c.args.accepted.now in
    let frame = c.args.frame.now in
    let main = c.args.main.now in
    let base : ℕ = c.args.base in
    let h : IsHere frame main s base =
    record {
      accepted = c.requires.accepted;
      stands = c.requires.main;
      shapes = c.requires.shapes;
      end = c.requires.end;
      small = c.requires.small;
      low = c.requires.base;
    } in
    let same : source_of c.source-source.result.now ≡ s = ap (λ (t : Source). source_of t) c.source-source.ensures.value in
    let names : c.in_ok-condition_names.field-0.items ≡ shown_conditions s =
    c.in_ok-condition_names.ensures ∙ ap (λ (names : List (List ℕ)). space_name ∷ names) c.formal_conditions.ensures ∙ ap shown_conditions same in
    let slots : c.in_ok-slots_from.field-0.items ≡ slots_from (frame.end - 1) (shown_formals s) =
    c.in_ok-slots_from.ensures ∙ ap (λ (ds : List Decl). slots_from (frame.end - 1) ds) (c.shown_formals.ensures ∙ ap shown_formals same) in
    let count : c.len-conds.result ≡ length main.conds.items = omega (arith, c.len-conds.ensures) in
    let made = image_made frame main s base (base + 6 * (2 + c.len-conds.result) + c.small_size.result) _ _ _ _ _ h
    (final_is frame main s base c.len-conds.result c.small_size.result h count c.small_size.ensures)
    (registers_are frame main s base c.len-conds.result _ h count c.in_ok-registers.ensures)
    (window_words frame main s base _ _ _ h c.in_ok-code.ensures c.in_ok-numbers.ensures c.in_ok-words.ensures)
    (c.bare.view_is ∙ c.bare_image-bare.ensures) names slots in
    made ∙ ap (λ (e : ℕ). whole_image c.args.frame.now.chosen.items s (seen_proc main) c.args.base e) (sym c.requires.end)
