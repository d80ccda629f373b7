-- What the code has at hand is what the definitions say of a source.
use Rattle.quick_generate.{specs.QuickOf.{image_size, window_end, words_by}, specs.Lining.{main_size, most_levels, most_lined}}
use Rattle.quick_generate.{proofs.LinedSizeLaws.small_nests, proofs.SizeLaws.size_anywhere}
use Rattle.std.{proofs.Common.{◌≡◌, ℕ, ◌+◌, ◌-◌, ◌<◌, ◌≤◌, ◌^◌, List, [], ◌∷◌, ◌++◌, length, sym, ap, ◌∙◌, arith, append_assoc}, specs.Prelude.replicate}
use Rattle.std.specs.Prelude.{reverse}
use Rattle.fm_words.specs.WindowLimit.{most_window}
use Rattle.fm_code.specs.InstructionWords.{halt_word}
use Rattle.gypsy_syntax.{specs.Programs.{Proc, Program, body_of, shapes_of, words_of}, specs.Resolved.program_of, specs.Sources.SourceOf}
use Rattle.gypsy_space.specs.Needs.{StackSizes, main_used}
use Rattle.quick_gypsy.{specs.Numbers.numbers_of, specs.Quick.quick}
use Rattle.quick_build.specs.QuickImage.{condition_cell, exit_numbers, exit_place, exits_code, final_of, first_values, layout_in, quick_window, quick_words}
use Rattle.quick_build.{specs.QuickImage.{most_nested, quick_main, start_of}, specs.QuickImplements.CanBeQuick}

-- the word that ends the code stands in front of the condition's word
pub cell_is : (vs : List ℕ) (p : Proc) (base : ℕ) →
    condition_cell p (window_end vs p base) ≡ final_of vs p base (window_end vs p base) + 1
cell_is vs p base = omega (arith, size_anywhere vs p 0 (window_end vs p base) p.body)

-- there is room
room_is : (vs : List ℕ) (p : Proc) (base : ℕ)
    → (final_of vs p base (window_end vs p base) + 1 ≤ condition_cell p (window_end vs p base)) × (words_of (shapes_of p) < window_end vs p base)
room_is vs p base = let cell = cell_is vs p base in (omega (arith, cell), omega arith)

pub can_be : (vs : List ℕ) (s : SourceOf) (sizes : StackSizes) (base : ℕ) → length vs ≤ 10 → base ≤ 2 ^ 31
    → main_size (program_of s) sizes ≤ most_lined → image_size vs (quick_main s sizes) ≤ most_window
    → CanBeQuick vs s sizes base (window_end vs (quick_main s sizes) base)
can_be vs s sizes base ten low lined small =
    let q : Program = program_of s in
    let room = room_is vs (quick_main s sizes) base in
    record {
      ten = ten;
      nests = small_nests q sizes most_nested most_levels (main_used q) (body_of q q.main) lined;
      room = room.0;
      words = room.1;
      fits = omega (arith, low, small);
    }

-- the code
pub words_are : (vs : List ℕ) (p : Proc) (base : ℕ) →
    words_by (layout_in vs p (window_end vs p base)) base p.conds p.body ≡ quick_words vs p base (window_end vs p base)
words_are vs p base =
    let end = window_end vs p base in
    ap (λ (cell : ℕ). exits_code cell (final_of vs p base end) (exit_numbers p.conds) ++
    quick (layout_in vs p end) (exit_place base p.conds) (start_of p base) p.body) (sym (cell_is vs p base))

-- the window, which has no room to spare
pub window_is : (vs : List ℕ) (p : Proc) (base : ℕ) →
    quick_words vs p base (window_end vs p base) ++ (halt_word ∷ 2 ∷ reverse (numbers_of (first_values p)))
    ≡ quick_window vs p base (window_end vs p base)
window_is vs p base =
    let end = window_end vs p base in
    let code = quick_words vs p base end in
    let values = reverse (numbers_of (first_values p)) in
    let none : condition_cell p end - (final_of vs p base end + 1) ≡ 0 = let cell = cell_is vs p base in omega (arith, cell) in
    sym (append_assoc code (halt_word ∷ 2 ∷ []) values)
    ∙ ap (λ (gap : ℕ). (code ++ (halt_word ∷ (replicate {A = ℕ} gap 0 ++ 2 ∷ []))) ++ values) (sym none)
