-- The quick image of an accepted source keeps the limits of images.
use Rattle.quick_generate.{specs.QuickOf.{StandsForMain, whole_image, image_size, window_end}, proofs.QuickLaws.{cell_is, window_is}}
use Rattle.quick_generate.proofs.SizeLaws.{size_anywhere}
use Rattle.std.proofs.Common.{◌≡◌, ℕ, ◌+◌, ◌-◌, ◌*◌, ◌≤◌, ◌^◌, List, [], ◌∷◌, length, map, refl, sym, ap, ◌∙◌, subst, arith, length-append, Option}
use Rattle.std.{proofs.Math.ListN.length-reverse_aux, proofs.lemmas.Bool.{and_from, le-leb, lt-ltb}, specs.Prelude.{IsTrue, reverse}, specs.List.IsDistinct}
use Rattle.std.specs.Str.{bytes_eq}
use Rattle.stack_text.{specs.declared.shape.Shape.Shape, specs.SharedLimits.most_array, specs.Values.ValueOf}
use Rattle.fm_words.specs.WindowLimit.{most_window}
use Rattle.fm_code.specs.InstructionWords.{halt_word}
use Rattle.fm_image.{specs.Image.ImageOf, specs.Limits.{is_image, all_after, window_of}, proofs.LimitLaws.from_limits, proofs.NameLaws.slots_fit}
use Rattle.fm_image.proofs.NameLaws.{conditions_fit}
use Rattle.piton_linker.specs.Layouts.{trimmed}
use Rattle.gypsy_syntax.{specs.Programs.{Proc, Program, shapes_of, words_of}, specs.Resolved.program_of, specs.Sources.{ProcOf, SourceOf}}
use Rattle.gypsy_syntax.{specs.ProgramFits.Each, specs.ValuesFit.VarsFit}
use Rattle.gypsy_check.specs.Accepted.{IsAccepted}
use Rattle.gypsy_space.specs.Needs.{stack_sizes}
use Rattle.gypsy_semantics.proofs.Keeping.{vars_join, locals_fit}
use Rattle.gypsy_codegen.{specs.Generated.generated_view, specs.WordsOf.zero_value}
use Rattle.stack_build.{specs.Formals.{formals_in, shown_formals, shown_conditions}, specs.Internal.Showing.shapes_in, proofs.ImageLimits.each_fits}
use Rattle.stack_build.{proofs.ImageLimits.{generated_shows, length-slots_from, names-slots_from, words_front}, proofs.Windows.shorter, proofs.MainLaws.main_is}
use Rattle.stack_build.proofs.MainLaws.{zero_values}
use Rattle.quick_gypsy.{specs.Numbers.numbers_of, specs.Quick.{quick, size}, proofs.NumbersLaws.numbers_length, proofs.QuickLaws.quick_length}
use Rattle.quick_build.specs.QuickImage.{condition_cell, exit_numbers, exit_place, exits_code, final_of, first_values, layout_in, quick_window, quick_words}
use Rattle.quick_build.{specs.QuickImage.start_of, proofs.ExitLaws.{exits_length, numbers_count}}

-- the window has as many words as are counted
code_long : (vs : List ℕ) (p : Proc) (base end : ℕ) → length (quick_words vs p base end) ≡ 6 * (2 + p.conds) + size (layout_in vs p end) p.body
code_long vs p base end =
    omega (
      arith,
      length-append (exits_code (condition_cell p end) (final_of vs p base end) (exit_numbers p.conds))
          (quick (layout_in vs p end) (exit_place base p.conds) (start_of p base) p.body),
      exits_length (condition_cell p end) (final_of vs p base end) (exit_numbers p.conds),
      numbers_count p.conds,
      quick_length (layout_in vs p end) (exit_place base p.conds) (start_of p base) p.body,
    )

window_long : (vs : List ℕ) (p : Proc) (base : ℕ) → VarsFit (shapes_of p) (first_values p) →
    length (quick_window vs p base (window_end vs p base)) ≡ image_size vs p
window_long vs p base fit =
    let end = window_end vs p base in
    let values = numbers_of (first_values p) in
    ap (λ (ws : List ℕ). length ws) (sym (window_is vs p base))
    ∙ omega (
      arith,
      length-append (quick_words vs p base end) (halt_word ∷ 2 ∷ reverse values),
      code_long vs p base end,
      length-reverse_aux values [],
      numbers_length (shapes_of p) (first_values p) fit,
      size_anywhere vs p 0 end p.body,
    )

-- the first values are of the variables' shapes
pub main_fit : (s : SourceOf) (p : Proc) → IsAccepted s → StandsForMain s p → VarsFit (shapes_of p) (first_values p)
main_fit s p accepted stands =
    let here = accepted.fits.procs (program_of s).main in
    let formals = subst (λ (shapes : List Shape). Each (λ t. t.length ≤ most_array) shapes) (sym stands.formals) here.formals in
    let locals : List Shape = map (λ (v : ValueOf). v.shape) p.locals in
    vars_join p.formals locals (map zero_value p.formals) p.locals (zero_values p.formals formals) (locals_fit p.locals stands.locals)

-- so there is room for the words
pub window_few : (vs : List ℕ) (s : SourceOf) (p : Proc) (base : ℕ) → IsAccepted s → StandsForMain s p →
    length (trimmed (quick_window vs p base (window_end vs p base))) ≤ image_size vs p
window_few vs s p base accepted stands =
    omega (arith, window_long vs p base (main_fit s p accepted stands), shorter (quick_window vs p base (window_end vs p base)))

pub quick_fits : (vs : List ℕ) (s : SourceOf) (p : Proc) (base : ℕ) → IsAccepted s → StandsForMain s p → base ≤ 2 ^ 31
    → image_size vs p ≤ most_window → IsTrue (is_image (whole_image vs s p base (window_end vs p base)))
unfolding all_after
quick_fits vs s p base accepted stands low small =
    let q : Program = program_of s in
    let end : ℕ = window_end vs p base in
    let image : ImageOf = whole_image vs s p base end in
    let main = main_is s accepted in
    let formals : p.formals ≡ shapes_in (shown_formals s) =
    stands.formals ∙ ap (λ (z : Proc). z.formals) main.1.at ∙ ap (λ (o : Option ProcOf). shapes_in (formals_in o)) (sym main.1.found) in
    let locals : List Shape = map (λ (v : ValueOf). v.shape) p.locals in
    let shows = generated_shows s (stack_sizes 1 1) 0 (generated_view q (stack_sizes 1 1) 0) accepted refl in
    let fewer = window_few vs s p base accepted stands in
    let cell = cell_is vs p base in
    let final_low : base ≤ final_of vs p base end = omega arith in
    let stand : words_of (shapes_in (shown_formals s)) ≤ words_of (shapes_of p) =
    subst (λ (shapes : List Shape). words_of shapes ≤ words_of (shapes_of p)) formals (words_front p.formals locals) in
    let some : 1 ≤ end - base = omega arith in
    let few : end - base ≤ 1048576 = omega (arith, small) in
    let below : base + (end - base) ≤ 4294967295 = omega (arith, low, few) in
    from_limits image record {
      version = refl;
      tables = refl;
      window = and_from _ _ (and_from _ _ (and_from _ _ (le-leb 1 (end - base) some) (le-leb (end - base) 1048576 few))
          (le-leb (base + (end - base)) 4294967295 below))
          (and_from _ _ (le-leb base (final_of vs p base end) final_low) (lt-ltb (final_of vs p base end) (base + (end - base)) (omega (arith, cell))));
      registers = refl;
      condition_address = and_from _ _ (le-leb base (condition_cell p end) (omega (arith, cell)))
          (lt-ltb (condition_cell p end) (base + (end - base)) (omega arith));
      condition_count = le-leb _ 201 shows.conditions_few;
      conditions = conditions_fit (shown_conditions s) shows.conditions_named shows.conditions_differ;
      slot_count = le-leb _ 200 (let few = shows.formals_few in let count = length-slots_from (end - 1) (shown_formals s) in omega arith);
      slots = slots_fit (window_of image) image.slots
          (each_fits (window_of image) (end - 1) (shown_formals s) shows.formals_named shows.formals_short (omega (arith, stand)) (omega arith))
          (subst (IsDistinct bytes_eq) (sym (names-slots_from (end - 1) (shown_formals s))) shows.formals_differ);
      words = le-leb (length (trimmed (quick_window vs p base end))) (end - base)
          (omega (arith, fewer));
    }
