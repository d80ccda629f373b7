-- What the procedures of examples/games/piles.gypsy do, and its loops.
use Rattle.std.proofs.Common.{◌≡◌, ◌≢◌, ℕ, zero, suc, ◌+◌, ◌/◌, ◌%◌, ◌^◌, ◌<◌, ◌≤◌, List, [], ◌∷◌, length, take, get_or, slice_set, Bool, true, false, Some}
use Rattle.std.{proofs.Common.{None, refl, sym, ap, ◌∙◌, subst, arith}, specs.Prelude.{ℤ, pos, int_le, map, bit_xor}, specs.Int.bit_at}
use Rattle.std.{proofs.Math.ListN.get_or-map, proofs.Math.Nat.div-one, proofs.lemmas.Bool.{le-leb, lt-leb, leb-true, leb-false}, proofs.lemmas.Int.ints}
use Rattle.std.{proofs.lemmas.List.{length-map, map-set, take_all}, proofs.lemmas.Nat.{shr_le, xor_lt}}
use Rattle.stack_text.{specs.declared.shape.Kind.TheVariants.Integer, specs.Values.ValueOf}
use Rattle.gypsy_syntax.{specs.Programs.{Stmt, Skip, Seq, Call, Declared}, specs.Effects.{integer_value, truth_value, same_int, are_same}}
use Rattle.gypsy_space.specs.Needs.{StackSizes, main_used, with_call, call_need, has_room}
use Rattle.gypsy_semantics.specs.Calls.{CurrentCondition}
use Rattle.gypsy_logic.{specs.Ends.{Exit, Ends, Then, Round, Again, Stands, Outcome, Meets, Given, Gives, AnyRoom, MainEnds, Means, Is}, proofs.Rules.◌▸◌}
use Rattle.gypsy_logic.proofs.Rules.{skip_rule, no_op_rule, signal_rule, seq_rule, if_true, if_false, if_rule, loop_over, meets_rule, given_rule, main_rule}
use Rattle.gypsy_logic.{proofs.Rules.room_is, proofs.NumberFacts.{truth_is, same_true, same_false, natural_fits}, proofs.PredefinedRules.assign_rule}
use Rattle.gypsy_logic.proofs.PredefinedRules.{constant_rule, equal_rule, equal_constant_rule, at_most_rule, add_rule, subtract_rule, index_rule, store_rule}
use Rattle.proved_programs.{specs.NimGame.{NimMove, Loses, nim_sum}, specs.Piles.{IsPosition, piles_value}, specs.Texts.Piles.{piles_program, piles_main_body}}
use Rattle.proved_programs.{specs.Texts.Piles.{piles_main_round_1, piles_main_round_2, piles_xor_round_1}, proofs.BitReading.{digit, high, rest, bit_read}}
use Rattle.proved_programs.{proofs.BitReading.{next_bit, xor_bit, none_yet, all_left}, proofs.ExclusiveOr.xor_exchange, proofs.NimGameLaws.zero_loses}
use Rattle.proved_programs.proofs.NimGameLaws.{winning_pile, pile_there, to_zero}

at_most : (a b : ℕ) → int_le (pos a) (pos b) ≡ true → a ≤ b
at_most a b e = leb-true a b e

more_than : (a b : ℕ) → int_le (pos b) (pos a) ≡ false → a < b
more_than a b e = leb-false b a e

not_yet : (i n : ℕ) → i < n → same_int (pos i) (pos n) ≡ false
not_yet i n less = same_false (pos i) (pos n) (λ e. absurd (omega (arith, ints)))

alike : (p q : Bool) → are_same (truth_value p) (truth_value q) ≡ true → (digit p + digit q) % 2 ≡ 0
alike true true e = refl
alike true false e = cc
alike false true e = cc
alike false false e = refl

unlike : (p q : Bool) → are_same (truth_value p) (truth_value q) ≡ false → (digit p + digit q) % 2 ≡ 1
unlike true true e = cc
unlike true false e = refl
unlike false true e = refl
unlike false false e = cc

-- what follows the first part, and what follows all but the last of a round
abbrev behind : Stmt → Stmt
behind (Seq a b) = b
behind s = s

abbrev behind_look : Stmt → Stmt
behind_look s = behind (behind (behind (behind s)))

abbrev behind_bit : Stmt → Stmt
behind_bit s = behind (behind (behind (behind (behind (behind (behind s))))))

-- ---- the procedure shift

module _ (sizes : StackSizes) where
  shifts : (bit top : Bool) (r : ℕ) → r < 2 ^ 30 →
      Meets piles_program sizes 2 (Given (integer_value (pos (high bit + r)) ∷ truth_value top ∷ []) AnyRoom)
      (Gives (integer_value (pos (r + r)) ∷ truth_value bit ∷ []) None)
  shifts true top r less = meets_rule (λ u room.
      let e : int_le (pos 1073741824) (pos (1073741824 + r)) ≡ true = le-leb 1073741824 (1073741824 + r) (omega arith) in
      seq_rule ▸ at_most_rule ▸
      seq_rule ▸ if_true (truth_is (int_le (pos 1073741824) (pos (1073741824 + r))) ∙ e) ▸
      subtract_rule (pos r) (omega (arith, ints)) (natural_fits r (omega arith)) ▸
      seq_rule ▸ add_rule (pos (r + r)) refl (natural_fits (r + r) (omega arith)) ▸
      skip_rule (ap (λ (b : Bool). integer_value (pos (r + r)) ∷ truth_value b ∷ []) e, refl))
  shifts false top r less = meets_rule (λ u room.
      let e : int_le (pos 1073741824) (pos (0 + r)) ≡ false = lt-leb 1073741824 (0 + r) (omega arith) in
      seq_rule ▸ at_most_rule ▸
      seq_rule ▸ if_false (truth_is (int_le (pos 1073741824) (pos (0 + r))) ∙ e) ▸ no_op_rule ▸
      seq_rule ▸ add_rule (pos (r + r)) (ap pos (omega arith)) (natural_fits (r + r) (omega arith)) ▸
      skip_rule (ap (λ (b : Bool). integer_value (pos (r + r)) ∷ truth_value b ∷ []) e, refl))

  -- ---- the procedure xor

  -- the variables: x, y, z, a, b, p, q, i, one
  abbrev xor_vars : ℕ → ℕ → ℕ → ℕ → ℕ → Bool → Bool → ℕ → List ValueOf
  xor_vars x y z a b p q i =
      integer_value (pos x) ∷ integer_value (pos y) ∷ integer_value (pos z) ∷ integer_value (pos a) ∷ integer_value (pos b) ∷
      truth_value p ∷ truth_value q ∷ integer_value (pos i) ∷ integer_value (pos 1) ∷ []

  -- a call of shift has room with these words in use
  abbrev ShiftRoom : StackSizes → Type 0
  ShiftRoom u = has_room piles_program sizes 2 u ≡ true

  module _ (x y : ℕ) (small : bit_xor x y < 2 ^ 31) (u : StackSizes) (room : ShiftRoom u) where
    -- with n bits to go: z has those before them
    record Reading (n : ℕ) : Type 0 where
      z : ℕ
      a : ℕ
      b : ℕ
      p : Bool
      q : Bool
      i : ℕ
      left : i + n ≡ 31
      z_is : z ≡ bit_xor x y / 2 ^ n
      a_is : a ≡ rest x n i
      b_is : b ≡ rest y n i

    abbrev at_reading : (n : ℕ) → Reading n → List ValueOf
    at_reading n v = xor_vars x y v.z v.a v.b v.p v.q v.i

    module _ (Q : Exit) (ends : (z a b : ℕ) (q : Bool) → z ≡ bit_xor x y → Q (xor_vars x y z a b true q 31) None) where
      abbrev BitEnds : ℕ → Exit
      BitEnds n = Round (Again (Stands Reading at_reading) n) Q

      -- behind the bit: i goes on
      next_place : (n : ℕ) (v : Reading n) (i : ℕ) → v.i ≡ suc i →
          Ends piles_program sizes u (behind_bit piles_xor_round_1) (xor_vars x y v.z v.a v.b v.p v.q i) (BitEnds (suc n))
      next_place n v i e =
          seq_rule ▸ add_rule (pos v.i) (ap pos (omega (arith, e))) (natural_fits v.i (omega (arith, v.left))) ▸
          skip_rule (n, omega arith, (v, refl))

      -- what is known once bit n is read
      abbrev after : (n : ℕ) (v : Reading (suc n)) (z : ℕ) → z ≡ bit_xor x y / 2 ^ n → Reading n
      after n v z e =
          let s = bit_read x n v.i v.left in
          let t = bit_read y n v.i v.left in
          record {
            z = z;
            a = rest x n v.i + rest x n v.i;
            b = rest y n v.i + rest y n v.i;
            p = are_same (truth_value s.bit) (truth_value t.bit);
            q = t.bit;
            i = suc v.i;
            left = omega (arith, v.left);
            z_is = e;
            a_is = sym s.after;
            b_is = sym t.after;
          }

      each_bit : (n : ℕ) (v : Reading n) → Ends piles_program sizes u piles_xor_round_1 (at_reading n v) (BitEnds n)
      each_bit zero v =
          let e : 31 ≡ v.i = omega (arith, v.left) in
          subst (λ (k : ℕ). Ends piles_program sizes u piles_xor_round_1 (xor_vars x y v.z v.a v.b v.p v.q k) (BitEnds 0)) e
          (seq_rule ▸ equal_constant_rule ▸ seq_rule ▸ if_true refl ▸ signal_rule ▸ ends v.z v.a v.b v.q (v.z_is ∙ div-one (bit_xor x y)))
      each_bit (suc n) v =
          let i = v.i in
          let s = bit_read x n v.i v.left in
          let t = bit_read y n v.i v.left in
          let r = rest x n v.i in
          let w = rest y n v.i in
          let m = bit_xor x y in
          let same = are_same (truth_value s.bit) (truth_value t.bit) in
          let d = next_bit m n in
          let bound : m / 2 ^ n < 2 ^ 31 = omega (arith, small, shr_le m n) in
          let twice : v.z + v.z + bit_at m n ≡ m / 2 ^ n = omega (arith, d, v.z_is) in
          let read = λ (z : ℕ) (e : z ≡ m / 2 ^ n). after n v z e in
          seq_rule ▸ equal_constant_rule ▸
          seq_rule ▸ if_false (truth_is (same_int (pos i) (pos 31)) ∙ not_yet i 31 (omega (arith, v.left))) ▸ no_op_rule ▸
          seq_rule ▸ given_rule (shifts s.bit (same_int (pos i) (pos 31)) r s.less)
          (ap (λ (k : ℕ). integer_value (pos k) ∷ truth_value (same_int (pos i) (pos 31)) ∷ []) (v.a_is ∙ s.before)) refl room tt ▸
          seq_rule ▸ given_rule (shifts t.bit v.q w t.less)
          (ap (λ (k : ℕ). integer_value (pos k) ∷ truth_value v.q ∷ []) (v.b_is ∙ t.before)) refl room tt ▸
          seq_rule ▸ add_rule (pos (v.z + v.z)) refl (natural_fits (v.z + v.z) (omega (arith, bound, twice))) ▸
          seq_rule ▸ equal_rule ▸
          seq_rule ▸ if_rule
          (λ e.
          let zero_bit : bit_at m n ≡ 0 = xor_bit x y n s.bit t.bit s.is t.is ∙ alike s.bit t.bit (sym (truth_is same) ∙ e) in
          no_op_rule ▸ next_place n (read (v.z + v.z) (omega (arith, twice, zero_bit))) i refl)
          (λ e.
          let one_bit : bit_at m n ≡ 1 = xor_bit x y n s.bit t.bit s.is t.is ∙ unlike s.bit t.bit (sym (truth_is same) ∙ e) in
          let z_is : v.z + v.z + 1 ≡ m / 2 ^ n = omega (arith, twice, one_bit) in
          add_rule (pos (v.z + v.z + 1)) refl (natural_fits (v.z + v.z + 1) (omega (arith, z_is, bound))) ▸
          next_place n (read (v.z + v.z + 1) z_is) i refl)

  abbrev XorGives : ℕ → ℕ → Outcome
  XorGives x y = Gives (integer_value (pos x) ∷ integer_value (pos y) ∷ integer_value (pos (bit_xor x y)) ∷ []) None

  -- given x and y, it gives z the exclusive or of both
  xors : (x y : ℕ) (z : ℤ) → bit_xor x y < 2 ^ 31 → x < 2 ^ 31 → y < 2 ^ 31 →
      Meets piles_program sizes 1
      (Given (integer_value (pos x) ∷ integer_value (pos y) ∷ integer_value z ∷ []) (λ u. ShiftRoom (with_call piles_program 1 u)))
      (XorGives x y)
  xors x y z small xs ys = meets_rule (λ u room.
      let w = with_call piles_program 1 u in
      let Q = λ (v : List ValueOf) (c : CurrentCondition). XorGives x y [] (take 3 v) c in
      seq_rule ▸ assign_rule ▸ seq_rule ▸ assign_rule ▸ seq_rule ▸ constant_rule ▸
      seq_rule ▸ loop_over (Reading x y small w room) (at_reading x y small w room)
      (each_bit x y small w room (Then (λ v. Ends piles_program sizes w Skip v Q) Q) (λ k a b q e.
      skip_rule (ap (λ (m : ℕ). integer_value (pos x) ∷ integer_value (pos y) ∷ integer_value (pos m) ∷ []) e, refl)))
      31
      (record {
        z = 0;
        a = x;
        b = y;
        p = false;
        q = false;
        i = 0;
        left = omega arith;
        z_is = sym (none_yet (bit_xor x y) small);
        a_is = all_left x xs;
        b_is = all_left y ys;
      }))

-- ---- main

-- the variables: piles, i, pile, sum, less, test, one
abbrev main_vars : List ℕ → ℕ → ℕ → ℕ → ℕ → Bool → List ValueOf
main_vars xs i pile sum less test =
    piles_value xs ∷ integer_value (pos i) ∷ integer_value (pos pile) ∷ integer_value (pos sum) ∷
    integer_value (pos less) ∷ truth_value test ∷ integer_value (pos 1) ∷ []

-- the calls have room
abbrev pub HasRoom : StackSizes → Type 0
HasRoom sizes = (29 ≤ sizes.temp) × (31 ≤ sizes.ctrl)

module _ (sizes : StackSizes) (h : HasRoom sizes) where
  xor_room : has_room piles_program sizes 1 (main_used piles_program) ≡ true
  unfolding main_used call_need
  xor_room = room_is piles_program sizes 1 (main_used piles_program) (omega (arith, h.0)) (omega (arith, h.1))

  shift_room : has_room piles_program sizes 2 (with_call piles_program 1 (main_used piles_program)) ≡ true
  unfolding main_used with_call call_need
  shift_room = room_is piles_program sizes 2 (with_call piles_program 1 (main_used piles_program)) (omega (arith, h.0)) (omega (arith, h.1))

-- one pile more
sum_next : (xs : List ℕ) (i : ℕ) → i < length xs → nim_sum (take (suc i) xs) ≡ bit_xor (get_or xs i 0) (nim_sum (take i xs))
sum_next [] i less = absurd (omega arith)
sum_next (x ∷ xs) zero less = refl
sum_next (x ∷ xs) (suc i) less = ap (bit_xor x) (sum_next xs i (omega arith)) ∙ xor_exchange x (get_or xs i 0) (nim_sum (take i xs))

-- a move leaves a lost position
pub record IsWon (xs : List ℕ) (v : List ValueOf) (way : CurrentCondition) : Type 0 where
  pub left : List ℕ
  pub move : NimMove xs left
  pub lost : Loses left
  pub is : v ≡ piles_value left ∷ []
  pub normal : way ≡ None

module _ (sizes : StackSizes) (h : HasRoom sizes) (xs : List ℕ) (position : IsPosition xs) where
  abbrev used : StackSizes
  used = main_used piles_program

  there : (i : ℕ) → i < 8 → i < length (map pos xs)
  there i less = omega (arith, length-map xs pos, position.number, less)

  -- by the call: less is the exclusive or of the pile and the sum
  calls_xor : {place : ℕ} {Q : Exit} (i sum less : ℕ) (test : Bool) → sum < 2 ^ 31 →
      Q (main_vars xs i (get_or xs i 0) sum (bit_xor (get_or xs i 0) sum) test) None →
      Ends piles_program sizes used (Call place 1 (2 ∷ 3 ∷ 4 ∷ []) [])
      (piles_value xs ∷ integer_value (pos i) ∷ integer_value (get_or (map pos xs) i (pos 0)) ∷ integer_value (pos sum) ∷
      integer_value (pos less) ∷ truth_value test ∷ integer_value (pos 1) ∷ []) Q
  calls_xor i sum less test small holds =
      let pile = get_or xs i 0 in
      given_rule (xors sizes pile sum (pos less) (xor_lt 31 pile sum (position.small i) small) (position.small i) small)
      (ap (λ (z : ℤ). integer_value z ∷ integer_value (pos sum) ∷ integer_value (pos less) ∷ []) (get_or-map pos xs i 0))
      refl (xor_room sizes h) (shift_room sizes h) holds

  -- the first loop: with n piles to go, sum is the exclusive or of the piles before
  record Adding (n : ℕ) : Type 0 where
    i : ℕ
    pile : ℕ
    sum : ℕ
    less : ℕ
    test : Bool
    left : i + n ≡ 8
    sum_is : sum ≡ nim_sum (take i xs)
    small : sum < 2 ^ 31

  abbrev at_adding : (n : ℕ) → Adding n → List ValueOf
  at_adding n v = main_vars xs v.i v.pile v.sum v.less v.test

  module _ (Q : Exit) (ends : (pile less : ℕ) → nim_sum xs < 2 ^ 31 → Q (main_vars xs 8 pile (nim_sum xs) less true) None) where
    abbrev AddEnds : ℕ → List ValueOf → Type 0
    AddEnds n x = Ends piles_program sizes used piles_main_round_2 x (Round (Again (Stands Adding at_adding) n) Q)

    adds : (n : ℕ) (v : Adding n) → AddEnds n (at_adding n v)
    adds zero v =
        let e : 8 ≡ v.i = omega (arith, v.left) in
        let whole : nim_sum (take v.i xs) ≡ nim_sum xs = ap nim_sum (take_all v.i xs (omega (arith, position.number, v.left))) in
        let s : nim_sum xs ≡ v.sum = sym (v.sum_is ∙ whole) in
        subst (λ (k : ℕ). AddEnds 0 (main_vars xs k v.pile v.sum v.less v.test)) e
        (subst (λ (k : ℕ). AddEnds 0 (main_vars xs 8 v.pile k v.less v.test)) s
        (seq_rule ▸ equal_constant_rule ▸ seq_rule ▸ if_true refl ▸ signal_rule ▸ ends v.pile v.less (omega (arith, s, v.small))))
    adds (suc n) v =
        let i = v.i in
        let pile = get_or xs v.i 0 in
        let less : v.i < 8 = omega (arith, v.left) in
        let next = bit_xor (get_or xs v.i 0) v.sum in
        seq_rule ▸ equal_constant_rule ▸
        seq_rule ▸ if_false (truth_is (same_int (pos i) (pos 8)) ∙ not_yet i 8 less) ▸ no_op_rule ▸
        seq_rule ▸ index_rule i refl (there i less) ▸
        seq_rule ▸ calls_xor i v.sum v.less (same_int (pos i) (pos 8)) v.small ▸
        seq_rule ▸ assign_rule ▸
        seq_rule ▸ add_rule (pos (suc i)) (ap pos (omega arith)) (natural_fits (suc i) (omega (arith, less))) ▸
        skip_rule (
          n,
          omega arith,
          (
            record {
              i = suc i;
              pile = pile;
              sum = next;
              less = next;
              test = same_int (pos i) (pos 8);
              left = omega (arith, v.left);
              sum_is = ap (bit_xor pile) v.sum_is ∙ sym (sum_next xs i (omega (arith, position.number, less)));
              small = xor_lt 31 pile v.sum (position.small i) v.small;
            },
            refl,
          ),
        )

  -- the second loop: with n piles to go, it comes to one that the move makes smaller
  module _ (sum : ℕ) (few : sum < 2 ^ 31) (last : ℕ) (wins : bit_xor (get_or xs last 0) sum < get_or xs last 0) where
    last_there : last < 8
    last_there = omega (arith, pile_there xs last (bit_xor (get_or xs last 0) sum) wins, position.number)

    record Searching (n : ℕ) : Type 0 where
      i : ℕ
      pile : ℕ
      less : ℕ
      test : Bool
      left : i + n ≡ last

    abbrev at_searching : (n : ℕ) → Searching n → List ValueOf
    at_searching n v = main_vars xs v.i v.pile sum v.less v.test

    module _ (Q : Exit) (ends : (i : ℕ) (test : Bool) → bit_xor (get_or xs i 0) sum < get_or xs i 0 →
        Q (main_vars (slice_set xs i (bit_xor (get_or xs i 0) sum)) i (get_or xs i 0) sum (bit_xor (get_or xs i 0) sum) test) None) where
      abbrev SearchEnds : ℕ → Exit
      SearchEnds n = Round (Again (Stands Searching at_searching) n) Q

      -- the move is made, or the next pile is looked at
      looks : (n i pile less : ℕ) (test : Bool) → i < 8 →
          (get_or xs i 0 ≤ bit_xor (get_or xs i 0) sum → (t : Bool) →
          Ends piles_program sizes used (behind_look piles_main_round_1) (main_vars xs i (get_or xs i 0) sum (bit_xor (get_or xs i 0) sum) t) (SearchEnds n)) →
          Ends piles_program sizes used piles_main_round_1 (main_vars xs i pile sum less test) (SearchEnds n)
      looks n i pile less test inside next =
          let p = get_or xs i 0 in
          let m = bit_xor (get_or xs i 0) sum in
          let t = int_le (pos p) (pos m) in
          seq_rule ▸ index_rule i refl (there i inside) ▸
          seq_rule ▸ calls_xor i sum less test few ▸
          seq_rule ▸ at_most_rule ▸
          seq_rule ▸ if_rule
          (λ e. no_op_rule ▸ next (at_most p m (sym (truth_is t) ∙ e)) t)
          (λ e.
          seq_rule ▸ store_rule i refl (there i inside) ▸
          seq_rule ▸ signal_rule ▸
          subst (λ (items : List ℤ). Q (record { shape = record { kind = Integer; length = 8 }; items = items } ∷
          integer_value (pos i) ∷ integer_value (pos p) ∷ integer_value (pos sum) ∷ integer_value (pos m) ∷ truth_value t ∷ integer_value (pos 1) ∷ []) None)
          (map-set pos xs i m) (ends i t (more_than m p (sym (truth_is t) ∙ e))))

      searches : (n : ℕ) (v : Searching n) → Ends piles_program sizes used piles_main_round_1 (at_searching n v) (SearchEnds n)
      searches zero v =
          let e : last ≡ v.i = omega (arith, v.left) in
          let w : bit_xor (get_or xs v.i 0) sum < get_or xs v.i 0 = subst (λ (k : ℕ). bit_xor (get_or xs k 0) sum < get_or xs k 0) e wins in
          looks 0 v.i v.pile v.less v.test (omega (arith, e, last_there)) (λ up t. absurd (omega (arith, up, w)))
      searches (suc n) v =
          let i = v.i in
          looks (suc n) v.i v.pile v.less v.test (omega (arith, v.left, last_there)) (λ up t.
          seq_rule ▸ add_rule (pos (suc i)) (ap pos (omega arith)) (natural_fits (suc i) (omega (arith, v.left, last_there))) ▸
          skip_rule (
            n,
            omega arith,
            (record { i = suc i; pile = get_or xs i 0; less = bit_xor (get_or xs i 0) sum; test = t; left = omega (arith, v.left) }, refl),
          ))

  -- ---- the program

  -- behind a part of the program
  abbrev Behind : Stmt → Exit → Exit
  Behind s Q = Then (λ y. Ends piles_program sizes used s y Q) Q

  abbrev LostExit : Exit
  LostExit = MainEnds piles_program (Is (piles_value xs ∷ []) (Some (Declared 0)))

  abbrev WonExit : Exit
  WonExit = MainEnds piles_program (IsWon xs)

  abbrev start : Adding 8
  start = record { i = 0; pile = 0; sum = 0; less = 0; test = false; left = omega arith; sum_is = refl; small = omega arith }

  pub says_lost : nim_sum xs ≡ 0 → Means piles_program sizes (piles_value xs ∷ []) (Is (piles_value xs ∷ []) (Some (Declared 0)))
  says_lost e =
      main_rule ▸ seq_rule ▸ loop_over Adding at_adding
      (adds (Behind (behind piles_main_body) LostExit) (λ pile less small.
      seq_rule ▸ equal_constant_rule ▸
      seq_rule ▸ if_true (truth_is (same_int (pos (nim_sum xs)) (pos 0)) ∙ same_true (pos (nim_sum xs)) (pos 0) (ap pos e)) ▸ signal_rule (refl, refl)))
      8 start

  pub makes_move : nim_sum xs ≢ 0 → Means piles_program sizes (piles_value xs ∷ []) (IsWon xs)
  makes_move other =
      let w = winning_pile xs other in
      main_rule ▸ seq_rule ▸ loop_over Adding at_adding
      (adds (Behind (behind piles_main_body) WonExit) (λ pile less small.
      seq_rule ▸ equal_constant_rule ▸
      seq_rule ▸ if_false (truth_is (same_int (pos (nim_sum xs)) (pos 0)) ∙
      same_false (pos (nim_sum xs)) (pos 0) (λ e. other (omega (arith, ints)))) ▸ no_op_rule ▸
      seq_rule ▸ constant_rule ▸
      seq_rule ▸ loop_over (Searching (nim_sum xs) small w.0 w.1) (at_searching (nim_sum xs) small w.0 w.1)
      (searches (nim_sum xs) small w.0 w.1 (Behind Skip WonExit) (λ i test less.
      skip_rule record {
        left = slice_set xs i (bit_xor (get_or xs i 0) (nim_sum xs));
        move = record { pile = i; left = bit_xor (get_or xs i 0) (nim_sum xs); fewer = less; is = refl };
        lost = zero_loses (slice_set xs i (bit_xor (get_or xs i 0) (nim_sum xs))) (to_zero xs i (pile_there xs i (bit_xor (get_or xs i 0) (nim_sum xs)) less));
        is = refl;
        normal = refl;
      }))
      w.0 (record { i = 0; pile = pile; less = less; test = same_int (pos (nim_sum xs)) (pos 0); left = omega arith })))
      8 start
