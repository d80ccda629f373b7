-- The product: 31 rounds, each a bit of the second factor.
use Rattle.std.proofs.Common.{◌≡◌, ℕ, zero, suc, ◌+◌, ◌*◌, ◌≤◌, ◌<◌, ◌^◌, ℤ, pos, ◌+ℤ◌, ◌-ℤ◌, ◌*ℤ◌, neg_ℤ, Some, Ok, Bool, true, false, not, ◌||◌, List, []}
use Rattle.std.{proofs.Common.{◌∷◌, length, map, refl, ap, sym, ◌∙◌, subst, arith}, specs.Prelude.{slice_get, ◌==◌, if◌then◌else◌}, proofs.lemmas.Bool.lt-ltb}
use Rattle.std.{proofs.lemmas.Bool.ne_eqb, proofs.lemmas.Int.ints}
use Rattle.piton_words.{specs.declared.word.Word.Word, specs.declared.outcome.Outcome.TheVariants.One, specs.Views.where_true}
use Rattle.piton_words.specs.declared.word.Word.TheVariants.{Int, Nat, Bool as Truth}
use Rattle.piton_words.specs.declared.op.WordOp.TheVariants as op
use Rattle.piton_words.specs.OperationRows as words
use Rattle.fm_words.specs.Word.{is_int}
use Rattle.piton_syntax.specs.declared.test_kind.TestFamily.TheVariants as family
use Rattle.piton_syntax.specs.declared.test_kind.TestKind.TheVariants as test
use Rattle.piton_check.specs.Instruction.{SystemView}
use Rattle.piton_semantics.{specs.State.{Frame, PitonState, element, with_element, with_word}, specs.Views.{then_on, test_of, is_negative}, specs.Law.Steps}
use Rattle.gypsy_syntax.specs.declared.predef.Predef.TheVariants as row
use Rattle.gypsy_predef.{specs.Bodies.body_of, proofs.RunningLaws.{Called, program_is, joined, counted, within, afterwards}, proofs.FollowLaws.Follows}
use Rattle.gypsy_predef.{proofs.FollowLaws.follow, proofs.NumberLaws.{add_row, subtract_row, truth_test, negative_test}, proofs.ProductLaws.{kept, bit, term}}
use Rattle.gypsy_predef.proofs.ProductLaws.{IsSum, Cut, cut_between, cut_first, cut_next, cut_whole, sum_first, sum_next, sum_whole}

-- one bit less to come
less_row : (n : ℕ) (v : Word) (areas : List ℕ) → n < 2 ^ 32 → words.row_of op.Sub1Nat v v (Nat (suc n)) areas ≡ Ok (One (Nat n))
less_row n v areas h =
    let less : pos (suc n) -ℤ pos 1 ≡ pos n = omega (arith, ints) in
    ap words.nat_word less ∙ ap (λ b. where_true b (Ok (One (Nat n)))) (lt-ltb n (2 ^ 32) h)

more_test : (n : ℕ) (b : Bool) → not (n == 0) ≡ b → test_of family.Nat test.NotZero (Nat n) ≡ Ok b
unfolding then_on
more_test n b e = ap Ok e

module _ (s : SystemView) (program caller place : ℕ) (f : Frame) (fs : List Frame) (areas : List (List Word))
    (found : slice_get s.programs program ≡ Some (body_of row.MgIntegerMultiply)) where
  abbrev here : Called
  here = record {
    s = s;
    program = program;
    body = body_of row.MgIntegerMultiply;
    is = program_is s program (body_of row.MgIntegerMultiply) found;
    caller = caller;
    place = place;
    f = f;
    fs = fs;
  }

  -- the locals: where d's variable is, both factors, the sum so far, whether it overflowed, how many bits are to come, and a sum on the way
  abbrev locals : ℕ → ℤ → ℤ → ℤ → Bool → ℕ → ℤ → List Word
  locals d x y p o n t = Nat d ∷ Int x ∷ Int y ∷ Int p ∷ Int (pos 0) ∷ Truth o ∷ Nat n ∷ Int t ∷ []

  -- in the body, at a place
  abbrev state : ℕ → List Word → List Word → PitonState
  state l ws stack = within here l ws stack areas

  -- so many steps of the body, with room for three words
  made : (k n l : ℕ) (ws stack : List Word) (r : PitonState) → length stack + 3 ≤ s.temp → Follows here 3 k n r l ws [] stack areas 0 →
      Steps s k n (state l ws stack) r
  made k n l ws stack r room asked =
      let went = follow here 3 k n r l ws [] stack areas 0 room asked in
      let same : went.took ≡ n = omega (arith, went.sum) in
      subst (λ n. Steps s k n (state l ws stack) r) same went.steps

  -- the start: both factors, and the sign's part
  starts : (a b c : ℕ) (x y : ℤ) (stack : List Word) → element stack b ≡ Some (Int x) → element stack c ≡ Some (Int y) → length stack + 3 ≤ s.temp →
      (negative : Bool) → is_negative y ≡ negative →
      let z = pos 0 -ℤ term negative x in
      Steps s 15 44 (state 0 (Nat a ∷ Nat b ∷ Nat c ∷ (body_of row.MgIntegerMultiply).temporaries) stack)
      (state 17 (locals a x y (kept z) (not (is_int z)) 31 (pos 0)) stack)
  starts a b c x y stack at_x at_y room true sign =
      made 15 44 0 _ stack _ room
      (_, at_x, (_, at_y, (true, negative_test y ∙ ap Ok sign, (_, subtract_row (pos 0) x (map length areas), (refl, refl)))))
  starts a b c x y stack at_x at_y room false sign =
      made 15 44 0 _ stack _ room
      (_, at_x, (_, at_y, (false, negative_test y ∙ ap Ok sign, (_, subtract_row (pos 0) (pos 0) (map length areas), (refl, refl)))))

  -- a round: the next bit of y, the sum with it, and then doubled
  round : (d : ℕ) (x y p : ℤ) (o : Bool) (n : ℕ) (t : ℤ) (stack : List Word) (b : Bool) → not (n == 0) ≡ b → n < 2 ^ 32 → length stack + 3 ≤ s.temp →
      (negative : Bool) → is_negative (kept (y +ℤ y)) ≡ negative →
      let added = p +ℤ term negative x in
      let half = kept added in
      Steps s 29 81 (state 17 (locals d x y p o (suc n) t) stack) (state (if b then 17 else 48)
      (locals d x (kept (y +ℤ y)) (kept (half +ℤ p)) (not (is_int (half +ℤ p)) || (not (is_int added) || o)) n half) stack)
  round d x y p o n t stack b more small room true sign =
      let ls = map length areas in
      let half = kept (p +ℤ x) in
      let turned = negative_test (kept (y +ℤ y)) ∙ ap Ok sign in
      let less = less_row n (Nat (suc n)) ls small in
      let again = more_test n b more in
      made 29 81 17 _ stack _ room
      (_, add_row y y ls, (true, turned, (_, add_row p x ls, (_, refl, (_, add_row half p ls, (_, refl, (_, less, (b, again, (refl, refl)))))))))
  round d x y p o n t stack b more small room false sign =
      let ls = map length areas in
      let half = kept (p +ℤ pos 0) in
      let turned = negative_test (kept (y +ℤ y)) ∙ ap Ok sign in
      let less = less_row n (Nat (suc n)) ls small in
      let again = more_test n b more in
      made 29 81 17 _ stack _ room
      (_, add_row y y ls, (false, turned, (_, add_row p (pos 0) ls, (_, refl, (_, add_row half p ls, (_, refl, (_, less, (b, again, (refl, refl)))))))))

  -- after the rounds: the sum of all bits
  record Added (d : ℕ) (x y : ℤ) (stack : List Word) (steps count : ℕ) (from : PitonState) : Type 0 where
    rest : ℤ
    sum : ℤ
    half : ℤ
    overflow : Bool
    is : IsSum x y y overflow sum
    runs : Steps s steps count from (state 48 (locals d x rest sum overflow 0 half) stack)

  -- the rounds that are to come
  rounds : (n d : ℕ) (x y high rest p : ℤ) (o : Bool) (t : ℤ) (stack : List Word) → n < 31 → length stack + 3 ≤ s.temp →
      Cut (suc n) y high rest → IsSum x y high o p → Added d x y stack (29 * suc n) (81 * suc n) (state 17 (locals d x rest p o (suc n) t) stack)
  rounds zero d x y high rest p o t stack few room cut so_far =
      let rest' = kept (rest +ℤ rest) in
      let b = is_negative rest' in
      let high' = high +ℤ (high +ℤ bit b) in
      let added = p +ℤ term b x in
      let half = kept added in
      let p' = kept (half +ℤ p) in
      let o' = not (is_int (half +ℤ p)) || (not (is_int added) || o) in
      let cut' : Cut 0 y high' rest' = cut_next 0 y high rest cut in
      let so_far' : IsSum x y high' o' p' = sum_next x y high o p b (cut_between 0 y high' rest' cut') so_far in
      record {
        rest = rest';
        sum = p';
        half = half;
        overflow = o';
        is = subst (λ h. IsSum x y h o' p') (cut_whole y high' rest' cut') so_far';
        runs = round d x rest p o 0 t stack false refl (omega arith) room b refl;
      }
  rounds (suc n) d x y high rest p o t stack few room cut so_far =
      let rest' = kept (rest +ℤ rest) in
      let b = is_negative rest' in
      let high' = high +ℤ (high +ℤ bit b) in
      let added = p +ℤ term b x in
      let half = kept added in
      let p' = kept (half +ℤ p) in
      let o' = not (is_int (half +ℤ p)) || (not (is_int added) || o) in
      let cut' : Cut (suc n) y high' rest' = cut_next (suc n) y high rest cut in
      let so_far' : IsSum x y high' o' p' = sum_next x y high o p b (cut_between (suc n) y high' rest' cut') so_far in
      let others = rounds n d x y high' rest' p' o' half stack (omega (arith, few)) room cut' so_far' in
      let more : not (suc n == 0) ≡ true = ap not (ne_eqb (suc n) 0 (λ e. omega (arith, e))) in
      let one = round d x rest p o (suc n) t stack true more (omega (arith, few)) room b refl in
      record {
        rest = others.rest;
        sum = others.sum;
        half = others.half;
        overflow = others.overflow;
        is = others.is;
        runs = counted s (29 + 29 * suc n) (81 + 81 * suc n) (29 * suc (suc n)) (81 * suc (suc n)) (state 17 (locals d x rest p o (suc (suc n)) t) stack)
            (state 48 (locals d x others.rest others.sum others.overflow 0 others.half) stack) (omega arith) (omega arith) (joined one others.runs);
      }

  -- the start and all rounds
  adds_all : (a b c : ℕ) (x y : ℤ) (stack : List Word) → element stack b ≡ Some (Int x) → element stack c ≡ Some (Int y) → length stack + 3 ≤ s.temp →
      is_int y ≡ true → Added a x y stack 914 2555 (state 0 (Nat a ∷ Nat b ∷ Nat c ∷ (body_of row.MgIntegerMultiply).temporaries) stack)
  adds_all a b c x y stack at_x at_y room fits =
      let z = pos 0 -ℤ term (is_negative y) x in
      let high = neg_ℤ (bit (is_negative y)) in
      let cut = cut_first y fits in
      let first = sum_first x y (is_negative y) (cut_between 31 y high y cut) in
      let all = rounds 30 a x y high y (kept z) (not (is_int z)) (pos 0) stack (omega arith) room cut first in
      record {
        rest = all.rest;
        sum = all.sum;
        half = all.half;
        overflow = all.overflow;
        is = all.is;
        runs = joined (starts a b c x y stack at_x at_y room (is_negative y) refl) all.runs;
      }

  -- from the call on, where the product fits
  pub product_fits : (a b c : ℕ) (x y : ℤ) (stack : List Word) → element stack b ≡ Some (Int x) → element stack c ≡ Some (Int y) →
      length stack + 3 ≤ s.temp → is_int y ≡ true → a < length stack → is_int (x *ℤ y) ≡ true →
      Steps s 920 2573 (state 0 (Nat a ∷ Nat b ∷ Nat c ∷ (body_of row.MgIntegerMultiply).temporaries) stack)
      (afterwards here (with_element stack a (Int (x *ℤ y))) areas)
  product_fits a b c x y stack at_x at_y room fits low product =
      let all = adds_all a b c x y stack at_x at_y room fits in
      let free : all.overflow ≡ false = sum_whole x y all.overflow all.sum all.is ∙ ap not product in
      let same : all.sum ≡ x *ℤ y = all.is.exact free in
      let end = afterwards here (with_element stack a (Int (x *ℤ y))) areas in
      let ws = locals a x all.rest (x *ℤ y) false 0 all.half in
      let put : Steps s 6 18 (state 48 ws stack) end =
      made 6 18 48 ws stack end room (false, truth_test false false refl, (low, (refl, refl))) in
      joined all.runs
      (subst (λ o. Steps s 6 18 (state 48 (locals a x all.rest all.sum o 0 all.half) stack) end) (sym free)
      (subst (λ p. Steps s 6 18 (state 48 (locals a x all.rest p false 0 all.half) stack) end) (sym same) put))

  -- and where it doesn't
  pub product_overflows : (a b c : ℕ) (x y : ℤ) (stack : List Word) → element stack b ≡ Some (Int x) → element stack c ≡ Some (Int y) →
      length stack + 3 ≤ s.temp → is_int y ≡ true → is_int (x *ℤ y) ≡ false →
      Steps s 919 2567 (state 0 (Nat a ∷ Nat b ∷ Nat c ∷ (body_of row.MgIntegerMultiply).temporaries) stack)
      (afterwards here stack (with_word areas 0 0 (Nat 1)))
  product_overflows a b c x y stack at_x at_y room fits product =
      let all = adds_all a b c x y stack at_x at_y room fits in
      let over : all.overflow ≡ true = sum_whole x y all.overflow all.sum all.is ∙ ap not product in
      let end = afterwards here stack (with_word areas 0 0 (Nat 1)) in
      let ws = locals a x all.rest all.sum true 0 all.half in
      let failed : Steps s 5 12 (state 48 ws stack) end = made 5 12 48 ws stack end room (true, truth_test true true refl, (refl, refl)) in
      joined all.runs (subst (λ o. Steps s 5 12 (state 48 (locals a x all.rest all.sum o 0 all.half) stack) end) (sym over) failed)
