-- A file spells each quick image: its words and its registers are numbers of 32 bits.
use Rattle.quick_generate.{specs.QuickOf.{StandsForMain, whole_image, image_size, window_end}, proofs.CodeWordsLaws.{AreWords, IsNear, IsReach, code_words}}
use Rattle.quick_generate.proofs.CodeWordsLaws.{jump_words, number_word, set_area_words, values_words, words-append, no_words, words-replicate, words-reversed}
use Rattle.quick_generate.{proofs.ImageLaws.{main_fit, quick_fits}, proofs.PlacedLaws.conds_few, proofs.SizeLaws.size_anywhere}
use Rattle.std.{proofs.Common.{◌≡◌, ◌<◌, ◌≤◌, ◌+◌, ◌-◌, ◌*◌, ℕ, zero, suc, true, false, Bool, List, [], ◌∷◌, ◌++◌, length, refl, arith}, specs.Prelude.◌^◌}
use Rattle.std.{specs.Prelude.{◌==◌, nat_lt, replicate, reverse, if◌then◌else◌}, proofs.lemmas.Bool.ltb-true}
use Rattle.fm_words.specs.WindowLimit.{most_window}
use Rattle.fm_code.{specs.InstructionWords.halt_word, specs.Templates.jump_code}
use Rattle.fm_image.specs.Spelling.{Spelled, spelling}
use Rattle.gypsy_syntax.{specs.Programs.{ConditionOf, Leave, Routine, Space, Declared, Proc, shapes_of, words_of}, specs.Sources.SourceOf}
use Rattle.gypsy_check.specs.Accepted.{IsAccepted}
use Rattle.stack_build.proofs.WordsLaws.{words-trimmed}
use Rattle.quick_code.{specs.Access.Held, specs.Pieces.set_area_code}
use Rattle.quick_gypsy.specs.Numbers.{numbers_of}
use Rattle.quick_build.specs.QuickImage.{access_from, condition_cell, declared_numbers, exit_code, exit_numbers, exit_place, exits_code, final_of, first_values}
use Rattle.quick_build.specs.QuickImage.{layout_in, quick_registers, quick_window, quick_words, start_of, variable_address}

-- 1. Exits.

exit_words : (cc final n : ℕ) → cc < 2 ^ 32 → final < 2 ^ 32 → n < 2 ^ 32 → AreWords (exit_code cc final n)
exit_words cc final n lt low small = words-append (set_area_code cc n) (jump_code final) (set_area_words cc n lt small) (jump_words final low)

declared_words : (cc final from n : ℕ) → cc < 2 ^ 32 → final < 2 ^ 32 → from + n < 2 ^ 32 → AreWords (exits_code cc final (declared_numbers from n))
declared_words cc final from zero lt low few = no_words
declared_words cc final from (suc n) lt low few =
    words-append (exit_code cc final from) _ (exit_words cc final from lt low (omega (arith, few)))
    (declared_words cc final (suc from) n lt low (omega (arith, few)))

exits_words : (cc final conds : ℕ) → cc < 2 ^ 32 → final < 2 ^ 32 → conds ≤ 200 → AreWords (exits_code cc final (exit_numbers conds))
exits_words cc final conds lt low few =
    words-append (exit_code cc final 1) _ (exit_words cc final 1 lt low (omega arith))
    (words-append (exit_code cc final 3) _ (exit_words cc final 3 lt low (omega arith)) (declared_words cc final 4 conds lt low (omega (arith, few))))

exit_below : (base conds : ℕ) (c : ConditionOf) → base ≤ 2 ^ 31 → conds ≤ 200 → exit_place base conds c < 2 ^ 32
exit_below base conds Leave low few = omega (arith, low)
exit_below base conds Routine low few = omega (arith, low)
exit_below base conds Space low few = omega (arith, low)
exit_below base conds (Declared i) low few = by_place (nat_lt i conds) refl
  where
    by_place : (t : Bool) → nat_lt i conds ≡ t → base + 6 * (if t then 2 + i else 0) < 2 ^ 32
    by_place true e = let lt = ltb-true i conds e in omega (arith, lt, low, few)
    by_place false e = omega (arith, low)

-- 2. The window.

near_from : (k : ℕ) (vs : List ℕ) (b a : ℕ) → k + length vs ≤ 16 → a < 2 ^ 32 → IsReach (access_from k vs b a)
near_from k [] b a few lt = lt
near_from k (v ∷ vs) b a few lt = pick (v == b) (near_from (suc k) vs b a (omega (arith, few)) lt)
  where
    pick : (t : Bool) → IsReach (access_from (suc k) vs b a) → IsReach (if t then Held k else access_from (suc k) vs b a)
    pick true h = omega (arith, few)
    pick false h = h

module _ (vs : List ℕ) (s : SourceOf) (p : Proc) (base : ℕ) (accepted : IsAccepted s) (stands : StandsForMain s p) (low : base ≤ 2 ^ 31)
    (ten : length vs ≤ 10) (small : image_size vs p ≤ most_window) where
  abbrev end : ℕ
  end = window_end vs p base

  end_low : end < 2 ^ 32
  end_low = omega (arith, low, small)

  near : IsNear (layout_in vs p end)
  near = record {
    reach = λ b. near_from 5 vs b (variable_address p end b) (omega (arith, ten)) (let e = end_low in omega (arith, e));
    room = omega arith;
    fits = end_low;
  }

  final_low : final_of vs p base end + 2 ≤ end
  final_low = let same = size_anywhere vs p 0 end p.body in omega (arith, same)

  code_part : AreWords (quick_words vs p base end)
  code_part =
      let conds = conds_few s p accepted stands in
      let e = end_low in
      let f = final_low in
      words-append (exits_code (condition_cell p end) (final_of vs p base end) (exit_numbers p.conds)) _
      (exits_words (condition_cell p end) (final_of vs p base end) p.conds (omega (arith, e)) (omega (arith, e, f)) conds)
      (code_words (layout_in vs p end) near (exit_place base p.conds) (start_of p base) p.body
      (λ c. exit_below base p.conds c low conds) stands.plain (omega (arith, e, f)))

  window_part : AreWords (quick_window vs p base end)
  window_part =
      let gap : ℕ = condition_cell p end - (final_of vs p base end + 1) in
      let values = numbers_of (first_values p) in
      words-append (quick_words vs p base end ++ (halt_word ∷ (replicate {A = ℕ} gap 0 ++ 2 ∷ []))) (reverse values)
      (words-append (quick_words vs p base end) _ code_part
      (number_word halt_word _ (omega arith) (words-append (replicate {A = ℕ} gap 0) (2 ∷ []) (words-replicate gap) (number_word 2 [] (omega arith) no_words))))
      (words-reversed values (values_words (shapes_of p) (first_values p) (main_fit s p accepted stands)))

  registers_part : AreWords (quick_registers vs p base end)
  registers_part =
      let e = end_low in
      let f = final_low in
      let top : end - words_of (shapes_of p) < 2 ^ 32 = omega (arith, e) in
      let start : start_of p base < 2 ^ 32 = omega (arith, e, f) in
      let at : (b : ℕ) → variable_address p end b < 2 ^ 32 = λ b. omega (arith, e) in
      number_word 0 _ (omega arith) (number_word _ _ top (number_word _ _ top (number_word 0 _ (omega arith) (number_word 0 _ (omega arith)
      (number_word _ _ (at _) (number_word _ _ (at _) (number_word _ _ (at _) (number_word _ _ (at _) (number_word _ _ (at _)
      (number_word _ _ (at _) (number_word _ _ (at _) (number_word _ _ (at _) (number_word _ _ (at _) (number_word _ _ (at _)
      (number_word _ [] start no_words)))))))))))))))

  pub quick_spells : Spelled (spelling (whole_image vs s p base end)) (whole_image vs s p base end)
  quick_spells = record {
    limits = quick_fits vs s p base accepted stands low small;
    registers = registers_part.all;
    words = words-trimmed (quick_window vs p base end) window_part.all;
    fields = refl;
  }
