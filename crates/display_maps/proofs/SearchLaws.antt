-- A binary search finds the mark at an address.
use Rattle.std.proofs.Common.{◌≡◌, ◌≢◌, ℕ, zero, suc, ◌-◌, ◌<◌, ◌≤◌, List, [], ◌∷◌, length, Some, None, Result, Ok, Err, IfOk, IfErr, cond, refl, sym, ap, ◌∙◌}
use Rattle.std.{proofs.Common.arith, specs.Prelude.slice_get, specs.List.Sorted.{IsSearchInRange, IsBinarySearchResult, IsNonDecreasingBy}}
use Rattle.std.{specs.Ordering.{nat_cmp, ordering_index}, proofs.lemmas.Bool.{eq-eqb, ne_eqb}, proofs.lemmas.Bool.Decides.nat_tests, proofs.lemmas.Cmp.ranked}
use Rattle.std.proofs.lemmas.List.Sorted.{IsNonDecreasingBy-from_default}
use Rattle.fm_image.{specs.declared.procedure.Mark.Mark, proofs.MarkLaws.{no_mark, address_at, Ascending}}
use Rattle.display_maps.specs.ReadingAt.{mark_there}

-- no mark before the place has the address, and the one there has it
there : (ms : List Mark) (address i : ℕ) → ((j : ℕ) → j < i → address_at ms j ≢ address) → i < length ms → address_at ms i ≡ address
    → mark_there address ms ≡ slice_get ms i
there [] address i before lt is = absurd (omega (arith, lt))
there (m ∷ ms) address zero before lt is = ap (λ b. cond b (Some m) (mark_there address ms)) (eq-eqb m.address address is)
there (m ∷ ms) address (suc i) before lt is =
    ap (λ b. cond b (Some m) (mark_there address ms)) (ne_eqb m.address address (before 0 (omega arith)))
    ∙ there ms address i (λ j low. before (suc j) (omega (arith, low))) (omega (arith, lt)) is

absent : (ms : List Mark) (address : ℕ) → ((j : ℕ) → j < length ms → address_at ms j ≢ address) → mark_there address ms ≡ None
absent [] address others = refl
absent (m ∷ ms) address others =
    ap (λ b. cond b (Some m) (mark_there address ms)) (ne_eqb m.address address (others 0 (omega arith)))
    ∙ absent ms address (λ j low. others (suc j) (omega (arith, low)))

module _ (ms : List Mark) (ascending : Ascending ms) (address : ℕ) where
  comparisons_rise : IsNonDecreasingBy (λ (m : Mark). ordering_index (nat_cmp m.address address)) ms
  comparisons_rise = IsNonDecreasingBy-from_default (λ (m : Mark). ordering_index (nat_cmp m.address address)) ms no_mark (λ i j le in_range.
      let rise : address_at ms i ≤ address_at ms j = grind (arith, ascending i j, λ (same : i ≡ j). ap (address_at ms) same) in
      grind (arith, nat_tests))

  pub searched : (r : Result ℕ ℕ) → IsSearchInRange r (length ms) → IsBinarySearchResult (λ (m : Mark). nat_cmp m.address address) ms r →
      IfOk r (λ i. mark_there address ms ≡ slice_get ms i) × IfErr r (λ i. mark_there address ms ≡ None)
  searched (Ok at) in_range equal =
      let is : address_at ms at ≡ address = ranked _ address _ (sym (equal no_mark)) in
      (there ms address at (λ j low same. omega (arith, ascending j at low in_range, is, same)) in_range is, tt)
  searched (Err at) in_range parted = (tt, absent ms address others)
    where
      others : (j : ℕ) → j < length ms → address_at ms j ≢ address
      others j low same =
          let smaller : j < at → address_at ms j < address =
          λ lt. ranked _ address _ (sym ((parted comparisons_rise).0 j no_mark (omega (arith, in_range)) lt)) in
          let greater : at ≤ j → address < address_at ms j = λ le. ranked _ address _ (sym ((parted comparisons_rise).1 j no_mark le low)) in
          grind (arith, smaller, greater, same)
