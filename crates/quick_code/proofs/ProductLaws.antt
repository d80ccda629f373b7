-- What the code of a product does.
use Rattle.std.proofs.Common.{◌≡◌, ℕ, zero, suc, ◌+◌, ◌-◌, ◌*◌, ◌/◌, ◌%◌, ◌<◌, ◌≤◌, ◌^◌, ◌==◌, ℤ, pos, negsuc, ◌+ℤ◌, ◌*ℤ◌, neg_ℤ, Some, Bool, true, false, not}
use Rattle.std.{proofs.Common.{List, [], ◌∷◌, ◌++◌, length, refl, sym, ap, ◌∙◌, subst, arith, length-append}, specs.Prelude.{nat_le, if◌then◌else◌, reverse}}
use Rattle.std.{specs.Prelude.slice_get, proofs.lemmas.Bool.{eqb-true, eq-eqb, both_ways, lt-leb, le-leb, ltb-true}, proofs.lemmas.Bool.Decides.nat_tests}
use Rattle.std.{proofs.lemmas.Option.slice_get_within, proofs.Math.Nat.mul-le-mul_left}
use Rattle.fm_words.{specs.declared.operation.Op.Op, specs.declared.operation.Op.TheVariants.{Move, Add, Neg, Sub, Lsr}, specs.declared.condition.Cc.Cc}
use Rattle.fm_words.{specs.declared.condition.Cc.TheVariants.{Cs, Vc, Vs, Nc, Zs}, specs.declared.condition.Flags.Flags, specs.Encoding.encode_of}
use Rattle.fm_words.{specs.Alu.{alu_of, does_hold}, specs.Code.no_flags, specs.Word.{is_int, word_of_int, signed_of}, proofs.WordLaws.signed_of-word_of_int}
use Rattle.fm_machine.{specs.State.Fm, specs.Step.flags_set}
use Rattle.fm_code.{specs.Execution.{Parts, AreParts, CodeAt, CodeWord}, proofs.CodeLaws.{code_front, code_after}, specs.InstructionWords.{reg, at, immediate}}
use Rattle.fm_code.{specs.InstructionWords.{instruction, always, mov, setting, when}, proofs.RegisterLaws.next, proofs.OperandLaws.{RunsTo, from_immediate}}
use Rattle.fm_code.proofs.OperandLaws.{from_register}
use Rattle.fm_code.proofs.NumberLaws as numbers
use Rattle.fm_code.proofs.TargetLaws as target
use Rattle.quick_code.{specs.Access.{Access, register_of, find_code, find_count}, specs.Moments.{Now, now}, specs.Products.{rounds_count, product_count}}
use Rattle.quick_code.{specs.Pieces.{flag_n, flag_v, flags_cz, factors_code, signs_code, rounds_code, product_code}, specs.PieceRows.{LeadsTo, Gives}}
use Rattle.quick_code.{proofs.StandLaws.{At, other, does}, proofs.ReachLaws.{untouched, at_of, find, reads}, proofs.StoreLaws.{stores_when, skips_when}}
use Rattle.quick_code.proofs.ProductNumbers.{signed, sign_of, signed_sum, signed_zero, nearer_fits, further_fails, rounds_last, rounds_more, rounds_stop, split}
use Rattle.quick_code.proofs.ProductNumbers.{parity, beyond_twice, times_above, times_below, minus_word, minus_overflows}

-- a run within a product, of which r0 and r4 are known too
record Mid (P : Parts) (table : ℕ → ℕ) (ctrl : List ℕ) (n : ℕ) (s : Fm) (pc : ℕ) (a : Now) (x0 x4 : ℕ) : Type 0 where
  r : ℕ → ℕ
  run : RunsTo P n s r a.fl ctrl (reverse a.vars) a.areas
  held : (k : ℕ) → 5 ≤ k → k < 15 → r k ≡ table k
  r0_is : r 0 ≡ x0
  r3_is : r 3 ≡ a.x3
  r4_is : r 4 ≡ x4
  r15_is : r 15 ≡ pc

-- the same, its flags and count written another way
mid_of : {P : Parts} {table : ℕ → ℕ} {ctrl : List ℕ} {n n' : ℕ} {s : Fm} {pc : ℕ} {r : ℕ → ℕ} {fl : Flags} (a : Now) (x0 x4 : ℕ)
    → RunsTo P n s r fl ctrl (reverse a.vars) a.areas → n ≡ n' → fl ≡ a.fl → ((k : ℕ) → 5 ≤ k → k < 15 → r k ≡ table k)
    → r 0 ≡ x0 → r 3 ≡ a.x3 → r 4 ≡ x4 → r 15 ≡ pc → Mid P table ctrl n' s pc a x0 x4
mid_of {P} {table} {ctrl} {n} {n'} {s} {pc} {r} {fl} a x0 x4 c en ef held e0 e3 e4 e15 =
    let c1 = subst (λ i. RunsTo P i s r fl ctrl (reverse a.vars) a.areas) en c in
    record {
      r = r;
      run = subst (λ f. RunsTo P n' s r f ctrl (reverse a.vars) a.areas) ef c1;
      held = held;
      r0_is = e0;
      r3_is = e3;
      r4_is = e4;
      r15_is = e15;
    }

mid_as : {P : Parts} {table : ℕ → ℕ} {ctrl : List ℕ} {n n' : ℕ} {s : Fm} {pc pc' : ℕ} {a : Now} {x0 x4 : ℕ} → Mid P table ctrl n s pc a x0 x4
    → n ≡ n' → pc ≡ pc' → Mid P table ctrl n' s pc' a x0 x4
mid_as {a = a} {x0} {x4} h en e15 = mid_of a x0 x4 h.run en refl h.held h.r0_is h.r3_is h.r4_is (h.r15_is ∙ e15)

mid_words : {P : Parts} {table : ℕ → ℕ} {ctrl : List ℕ} {n : ℕ} {s : Fm} {pc : ℕ} {fl : Flags} {vars areas : List ℕ} {x3 y3 x0 y0 x4 y4 : ℕ}
    → Mid P table ctrl n s pc (now x3 fl vars areas) x0 x4 → x3 ≡ y3 → x0 ≡ y0 → x4 ≡ y4 → Mid P table ctrl n s pc (now y3 fl vars areas) y0 y4
mid_words {fl = fl} {vars} {areas} {y3 = y3} {y0 = y0} {y4 = y4} h e3 e0 e4 =
    mid_of (now y3 fl vars areas) y0 y4 h.run refl refl h.held (h.r0_is ∙ e0) (h.r3_is ∙ e3) (h.r4_is ∙ e4) h.r15_is

-- an address of the code, and the next, has 32 bits
within : (P : Parts) (pc w : ℕ) → AreParts P → CodeWord P pc w → pc + 1 < 2 ^ 32
within P pc w is there =
    let k = slice_get_within P.code (pc - P.base) w there.found in
    let above = there.above in
    let code_below = is.code_below in
    let areas_below = is.areas_below in
    let ctrl_below = is.ctrl_below in
    let temp_below = is.temp_below in
    let fits = is.fits in
    omega arith

module _ {P : Parts} {table : ℕ → ℕ} {ctrl : List ℕ} {n : ℕ} {s : Fm} {pc : ℕ} {a : Now} {x0 x4 : ℕ} where
  -- `LSR{cz} r4,r4`
  halve : Mid P table ctrl n s pc a x0 x4 → CodeWord P pc (setting flags_cz Lsr (reg 4) (reg 4))
      → Mid P table ctrl (n + 1) s (pc + 1) (record a { fl = flags_set flags_cz a.fl (alu_of Lsr a.fl.c x4 x4) }) x0 (x4 / 2)
  halve c word =
      let w = rw (← c.r15_is) at word in
      let r = c.r in
      let c1 = target.into_r4 Lsr flags_cz c.run (from_register 4 c.run (omega arith)) w in
      mid_of (record a { fl = flags_set flags_cz a.fl (alu_of Lsr a.fl.c x4 x4) }) x0 (x4 / 2) c1 refl
      (ap (λ v. flags_set flags_cz a.fl (alu_of Lsr a.fl.c v v)) c.r4_is)
      (λ k low high. untouched r (r 15 + 1) 4 (r 4 / 2) k low high (omega arith) ∙ c.held k low high)
      c.r0_is c.r3_is (ap (λ v. v / 2) c.r4_is) (ap (λ v. v + 1) c.r15_is)

  -- `NEG r4,r4`
  negate_r4 : Mid P table ctrl n s pc a x0 x4 → CodeWord P pc (always Neg (reg 4) (reg 4))
      → Mid P table ctrl (n + 1) s (pc + 1) a x0 ((2 ^ 32 - x4) % 2 ^ 32)
  negate_r4 c word =
      let w = rw (← c.r15_is) at word in
      let r = c.r in
      let c1 = target.into_r4 Neg no_flags c.run (from_register 4 c.run (omega arith)) w in
      mid_of a x0 ((2 ^ 32 - x4) % 2 ^ 32) c1 refl refl
      (λ k low high. untouched r (r 15 + 1) 4 ((2 ^ 32 - r 4) % 2 ^ 32) k low high (omega arith) ∙ c.held k low high)
      c.r0_is c.r3_is (ap (λ v. (2 ^ 32 - v) % 2 ^ 32) c.r4_is) (ap (λ v. v + 1) c.r15_is)

  -- `OP{v} r0,r0`
  into_r0 : (op : Op) → Mid P table ctrl n s pc a x0 x4 → CodeWord P pc (setting flag_v op (reg 0) (reg 0))
      → Mid P table ctrl (n + 1) s (pc + 1) (record a { fl = flags_set flag_v a.fl (alu_of op a.fl.c x0 x0) }) (alu_of op a.fl.c x0 x0).word x4
  into_r0 op c word =
      let w = rw (← c.r15_is) at word in
      let r = c.r in
      let c1 = target.into_r0 op flag_v c.run (from_register 0 c.run (omega arith)) w in
      mid_of (record a { fl = flags_set flag_v a.fl (alu_of op a.fl.c x0 x0) }) (alu_of op a.fl.c x0 x0).word x4 c1 refl
      (ap (λ v. flags_set flag_v a.fl (alu_of op a.fl.c v v)) c.r0_is)
      (λ k low high. untouched r (r 15 + 1) 0 (alu_of op a.fl.c (r 0) (r 0)).word k low high (omega arith) ∙ c.held k low high)
      (ap (λ v. (alu_of op a.fl.c v v).word) c.r0_is) c.r3_is c.r4_is (ap (λ v. v + 1) c.r15_is)

  -- `ADD[cs]{v} r3,r0`
  add_where : (t : Bool) → a.fl.c ≡ t → Mid P table ctrl n s pc a x0 x4 → CodeWord P pc (encode_of (instruction Add Cs flag_v (reg 3) (reg 0)))
      → Mid P table ctrl (n + 1) s (pc + 1)
      (record a { x3 = if t then (x0 + a.x3) % 2 ^ 32 else a.x3; fl = flags_set flag_v a.fl (alu_of Add a.fl.c x0 a.x3) }) x0 x4
  add_where true h c word =
      let w = rw (← c.r15_is) at word in
      let r = c.r in
      let c1 = stores_when Add Cs flag_v 3 c.run (from_register 0 c.run (omega arith)) w (omega arith) h c.run.laid in
      mid_of (record a { x3 = (x0 + a.x3) % 2 ^ 32; fl = flags_set flag_v a.fl (alu_of Add a.fl.c x0 a.x3) }) x0 x4 c1 refl
      (λ i. flags_set flag_v a.fl (alu_of Add a.fl.c (c.r0_is i) (c.r3_is i)))
      (λ k low high. untouched r (r 15 + 1) 3 ((r 0 + r 3) % 2 ^ 32) k low high (omega arith) ∙ c.held k low high)
      c.r0_is (λ i. (c.r0_is i + c.r3_is i) % 2 ^ 32) c.r4_is (ap (λ v. v + 1) c.r15_is)
  add_where false h c word =
      let w = rw (← c.r15_is) at word in
      let r = c.r in
      let c1 = skips_when Add Cs flag_v 3 c.run (from_register 0 c.run (omega arith)) w (omega arith) h in
      mid_of (record a { fl = flags_set flag_v a.fl (alu_of Add a.fl.c x0 a.x3) }) x0 x4 c1 refl
      (λ i. flags_set flag_v a.fl (alu_of Add a.fl.c (c.r0_is i) (c.r3_is i)))
      (λ k low high. other r 15 (r 15 + 1) k (omega (arith, high)) ∙ c.held k low high)
      c.r0_is c.r3_is c.r4_is (ap (λ v. v + 1) c.r15_is)

  -- `OP[cc] r15,#k`: a jump by k, or none
  jumps_by : (op : Op) (cc : Cc) (k : ℕ) → k < 256 → Mid P table ctrl n s pc a x0 x4 → CodeWord P pc (when cc op (reg 15) (immediate k))
      → does_hold cc a.fl ≡ true → Mid P table ctrl (n + 1) s (alu_of op a.fl.c k (pc + 1)).word a x0 x4
  jumps_by op cc k few c word h =
      let w = rw (← c.r15_is) at word in
      let r = c.r in
      let to = (alu_of op a.fl.c k (r 15 + 1)).word in
      let c1 = stores_when op cc no_flags 15 c.run (from_immediate k c.run few) w (omega arith) h c.run.laid in
      mid_of a x0 x4 c1 refl refl
      (λ j low high. other (next r) 15 to j (omega (arith, high)) ∙ other r 15 (r 15 + 1) j (omega (arith, high)) ∙ c.held j low high)
      c.r0_is c.r3_is c.r4_is (ap (λ v. (alu_of op a.fl.c k (v + 1)).word) c.r15_is)

  stays : (op : Op) (cc : Cc) (k : ℕ) → k < 256 → Mid P table ctrl n s pc a x0 x4 → CodeWord P pc (when cc op (reg 15) (immediate k))
      → does_hold cc a.fl ≡ false → Mid P table ctrl (n + 1) s (pc + 1) a x0 x4
  stays op cc k few c word h =
      let w = rw (← c.r15_is) at word in
      let r = c.r in
      let c1 = skips_when op cc no_flags 15 c.run (from_immediate k c.run few) w (omega arith) h in
      mid_of a x0 x4 c1 refl refl (λ j low high. other r 15 (r 15 + 1) j (omega (arith, high)) ∙ c.held j low high)
      c.r0_is c.r3_is c.r4_is (ap (λ v. v + 1) c.r15_is)

-- Wherever the code stands, k steps lead behind its words. Then z is in r3, or the overflow flag is set if z doesn't fit in 32 signed bits.
record Leads (P : Parts) (table : ℕ → ℕ) (code : List ℕ) (words k : ℕ) (a : Now) (x0 x4 : ℕ) (z : ℤ) : Type 0 where
  y0 : ℕ
  y3 : ℕ
  y4 : ℕ
  fl : Flags
  leads : (ctrl : List ℕ) (j : ℕ) (s : Fm) (pc : ℕ) → AreParts P → CodeAt P pc code → Mid P table ctrl j s pc a x0 x4
      → Mid P table ctrl (j + k) s (pc + words) (now y3 fl a.vars a.areas) y0 y4
  overflow : fl.v ≡ not (is_int z)
  word : is_int z ≡ true → y3 ≡ word_of_int z

-- the overflow flag of a sum, and its word
sum_over : (x y : ℤ) → is_int x ≡ true → is_int y ≡ true → not (is_int (signed_of (word_of_int x) +ℤ signed_of (word_of_int y))) ≡ not (is_int (x +ℤ y))
sum_over x y p q = λ i. not (is_int (signed_of-word_of_int x p i +ℤ signed_of-word_of_int y q i))

-- of an integer by its sign and its size
abbrev part : Bool → ℕ → ℕ
part s n = word_of_int (signed s n)

part_over : (s : Bool) (n k : ℕ) → is_int (signed s n) ≡ true → is_int (signed s k) ≡ true
    → not (is_int (signed_of (part s n) +ℤ signed_of (part s k))) ≡ not (is_int (signed s (n + k)))
part_over s n k p q = sum_over (signed s n) (signed s k) p q ∙ ap (λ z. not (is_int z)) (signed_sum s n k)

part_sum : (s : Bool) (n k : ℕ) → is_int (signed s n) ≡ true → is_int (signed s k) ≡ true → is_int (signed s (n + k)) ≡ true
    → (part s n + part s k) % 2 ^ 32 ≡ part s (n + k)
part_sum s n k p q h =
    numbers.sum_number (signed s n) (signed s k) p q (ap is_int (signed_sum s n k) ∙ h) ∙ ap word_of_int (signed_sum s n k)

-- The rounds: k is added up so far, and n is to be added m times; both have the sign s.
module _ (P : Parts) (table : ℕ → ℕ) (vars areas : List ℕ) (s : Bool) where
  abbrev Rounds : (count x3 x0 x4 : ℕ) → Flags → ℤ → Type 0
  Rounds count x3 x0 x4 fl z = Leads P table rounds_code 5 count (now x3 fl vars areas) x0 x4 z

  abbrev halved : ℕ → Flags → Flags
  halved m fl = flags_set flags_cz fl (alu_of Lsr fl.c m m)

  abbrev added : (x0 x3 m : ℕ) → Flags → Flags
  added x0 x3 m fl = flags_set flag_v (halved m fl) (alu_of Add (halved m fl).c x0 x3)

  abbrev doubled : (x0 x3 m : ℕ) → Flags → Flags
  doubled x0 x3 m fl = flags_set flag_v (added x0 x3 m fl) (alu_of Add (added x0 x3 m fl).c x0 x0)

  -- the first two instructions of a round
  begun : (t : Bool) (x3 x0 m : ℕ) (fl : Flags) → (m % 2 == 1) ≡ t → (ctrl : List ℕ) (j : ℕ) (f : Fm) (pc : ℕ) → CodeAt P pc rounds_code
      → Mid P table ctrl j f pc (now x3 fl vars areas) x0 m
      → Mid P table ctrl (j + 1 + 1) f (pc + 1 + 1) (now (if t then (x0 + x3) % 2 ^ 32 else x3) (added x0 x3 m fl) vars areas) x0 (m / 2)
  begun t x3 x0 m fl odd ctrl j f pc code c = add_where t odd (halve c code.0) code.1.0

  -- the next addition
  next_part : (t : Bool) (k n : ℕ) → is_int (signed s n) ≡ true → is_int (signed s k) ≡ true → is_int (signed s (k + (if t then n else 0))) ≡ true
      → (if t then (part s n + part s k) % 2 ^ 32 else part s k) ≡ part s (k + (if t then n else 0))
  next_part true k n p q h =
      let e : n + k ≡ k + n = omega arith in
      part_sum s n k p q (ap (λ i. is_int (signed s i)) e ∙ h) ∙ ap (part s) e
  next_part false k n p q h = let e : k ≡ k + 0 = omega arith in ap (part s) e

  last_round : (t : Bool) (k n m : ℕ) (fl : Flags) → (m % 2 == 1) ≡ t → m / 2 ≡ 0 → (m ≡ 0 → k ≡ 0) → k ≤ n → is_int (signed s n) ≡ true
      → Rounds (rounds_count (signed s n) m) (part s k) (part s n) m fl (signed s (k + n * m))
  last_round t k n m fl odd end none up fits =
      let fits_k = nearer_fits s k n up fits in
      let over = part_over s n k fits fits_k in
      record {
        y0 = part s n;
        y3 = if t then (part s n + part s k) % 2 ^ 32 else part s k;
        y4 = m / 2;
        fl = added (part s n) (part s k) m fl;
        leads = λ ctrl j f pc is code c.
            let bound = within P (pc + 1 + 1 + 1 + 1) _ is code.1.1.1.1.0 in
            mid_as (jumps_by Add Zs 2 (omega arith) (begun t (part s k) (part s n) m fl odd ctrl j f pc code c) code.1.1.0 (ap (λ v. v == 0) end))
            (omega (arith, rounds_last (signed s n) m end)) (omega (arith, bound));
        overflow = overflows t odd over;
        word = sums t odd fits_k;
      }
    where
      overflows : (t : Bool) → (m % 2 == 1) ≡ t
          → not (is_int (signed_of (part s n) +ℤ signed_of (part s k))) ≡ not (is_int (signed s (n + k)))
          → not (is_int (signed_of (part s n) +ℤ signed_of (part s k))) ≡ not (is_int (signed s (k + n * m)))
      overflows true odd over =
          let twice : m ≡ 1 + (m / 2 + m / 2) = parity m true odd in
          let one : m ≡ 1 = omega (arith, twice, end) in
          let e = ap (λ i. n * i) one in
          let all : n + k ≡ k + n * m = omega (arith, e) in
          over ∙ ap (λ i. not (is_int (signed s i))) all
      overflows false odd over =
          let zero_is : m ≡ 0 = omega (arith, parity m false odd, end) in
          let k_is = none zero_is in
          let e = ap (λ i. n * i) zero_is in
          let n_is : n + k ≡ n = omega (arith, k_is) in
          let all : 0 ≡ k + n * m = omega (arith, k_is, e) in
          let no : is_int (signed s 0) ≡ true = ap is_int (signed_zero s) in
          over ∙ ap (λ i. not (is_int (signed s i))) n_is ∙ ap not fits ∙ sym (ap not no) ∙ ap (λ i. not (is_int (signed s i))) all

      sums : (t : Bool) → (m % 2 == 1) ≡ t → is_int (signed s k) ≡ true → is_int (signed s (k + n * m)) ≡ true
          → (if t then (part s n + part s k) % 2 ^ 32 else part s k) ≡ part s (k + n * m)
      sums t odd fits_k h =
          let all : k + (if t then n else 0) ≡ k + n * m = whole t odd in
          next_part t k n fits fits_k (ap (λ i. is_int (signed s i)) all ∙ h) ∙ ap (part s) all
        where
          whole : (t : Bool) → (m % 2 == 1) ≡ t → k + (if t then n else 0) ≡ k + n * m
          whole t odd = let q = ap (λ i. (n + n) * i) end in omega (arith, split k n m (m / 2) t (parity m t odd), q)

  -- a round that isn't the last
  one_round : (t u : Bool) (k n m : ℕ) (fl : Flags) → (m % 2 == 1) ≡ t → is_int (signed s (n + n)) ≡ u → 1 ≤ m / 2 → m < 2 ^ 32 → k ≤ n
      → is_int (signed s n) ≡ true
      → (let k' = k + (if t then n else 0) in
      u ≡ true → Rounds (rounds_count (signed s (n + n)) (m / 2)) (part s k') (part s (n + n)) (m / 2) (doubled (part s n) (part s k) m fl)
      (signed s (k' + (n + n) * (m / 2))))
      → Rounds (rounds_count (signed s n) m) (part s k) (part s n) m fl (signed s (k + n * m))
  one_round t true k n m fl odd twice more few up fits go =
      let rest = go refl in
      let fits_k = nearer_fits s k n up fits in
      let k' = k + (if t then n else 0) in
      let fits_k' = nearer_fits s k' (n + n) (below t) twice in
      let all : k' + (n + n) * (m / 2) ≡ k + n * m = sym (split k n m (m / 2) t (parity m t odd)) in
      record {
        y0 = rest.y0;
        y3 = rest.y3;
        y4 = rest.y4;
        fl = rest.fl;
        leads = λ ctrl j f pc is code c.
            let c1 = begun t (part s k) (part s n) m fl odd ctrl j f pc code c in
            let c2 = stays Add Zs 2 (omega arith) c1 code.1.1.0 (none (m / 2) more) in
            let c3 = into_r0 Add c2 code.1.1.1.0 in
            let c4 = jumps_by Sub Vc 5 (omega arith) c3 code.1.1.1.1.0 (ap not (part_over s n n fits fits ∙ ap not twice)) in
            let bound = within P (pc + 1 + 1 + 1 + 1) _ is code.1.1.1.1.0 in
            let back = mid_as c4 refl (omega (arith, bound)) in
            mid_as (rest.leads ctrl (j + 1 + 1 + 1 + 1 + 1) f pc is code
            (mid_words back (next_part t k n fits fits_k fits_k') (part_sum s n n fits fits twice) refl))
            (omega (arith, rounds_more s n m more few twice)) refl;
        overflow = rest.overflow ∙ ap (λ i. not (is_int (signed s i))) all;
        word = λ h. rest.word (ap (λ i. is_int (signed s i)) all ∙ h) ∙ ap (part s) all;
      }
    where
      below : (t : Bool) → k + (if t then n else 0) ≤ n + n
      below true = omega (arith, up)
      below false = omega (arith, up)

      none : (q : ℕ) → 1 ≤ q → (q == 0) ≡ false
      none q h = grind (arith, nat_tests)
  one_round t false k n m fl odd twice more few up fits go =
      let far = further_fails s (n + n) (k + n * m) (beyond_twice k n m more) twice in
      record {
        y0 = (part s n + part s n) % 2 ^ 32;
        y3 = if t then (part s n + part s k) % 2 ^ 32 else part s k;
        y4 = m / 2;
        fl = doubled (part s n) (part s k) m fl;
        leads = λ ctrl j f pc is code c.
            let c1 = begun t (part s k) (part s n) m fl odd ctrl j f pc code c in
            let c2 = stays Add Zs 2 (omega arith) c1 code.1.1.0 (none (m / 2) more) in
            let c3 = into_r0 Add c2 code.1.1.1.0 in
            let c4 = stays Sub Vc 5 (omega arith) c3 code.1.1.1.1.0 (ap not (part_over s n n fits fits ∙ ap not twice)) in
            mid_as c4 (omega (arith, rounds_stop s n m more few fits twice)) (omega arith);
        overflow = part_over s n n fits fits ∙ ap not twice ∙ sym (ap not far);
        word = λ h. absurd (both_ways (is_int (signed s (k + n * m))) far h);
      }
    where
      none : (q : ℕ) → 1 ≤ q → (q == 0) ≡ false
      none q h = grind (arith, nat_tests)

  rounds : (fuel : ℕ) (end t : Bool) (k n m : ℕ) (fl : Flags) → (m / 2 == 0) ≡ end → (m % 2 == 1) ≡ t → m < 2 ^ fuel → m < 2 ^ 32 → (m ≡ 0 → k ≡ 0) → k ≤ n
      → is_int (signed s n) ≡ true → Rounds (rounds_count (signed s n) m) (part s k) (part s n) m fl (signed s (k + n * m))
  rounds zero true t k n m fl e odd below few none up fits = last_round t k n m fl odd (eqb-true (m / 2) 0 e) none up fits
  rounds zero false t k n m fl e odd below few none up fits =
      let low : m / 2 ≡ 0 = omega (arith, below) in
      absurd (both_ways (m / 2 == 0) e (eq-eqb (m / 2) 0 low))
  rounds (suc fuel) true t k n m fl e odd below few none up fits = last_round t k n m fl odd (eqb-true (m / 2) 0 e) none up fits
  rounds (suc fuel) false t k n m fl e odd below few none up fits =
      let more : 1 ≤ m / 2 = some (m / 2) e in
      let power : 2 ^ suc fuel ≡ 2 ^ fuel + 2 ^ fuel = omega arith in
      one_round t (is_int (signed s (n + n))) k n m fl odd refl more few up fits
      (λ twice. rounds fuel (m / 2 / 2 == 0) (m / 2 % 2 == 1) (k + (if t then n else 0)) (n + n) (m / 2) (doubled (part s n) (part s k) m fl)
      refl refl (omega (arith, below, power)) (omega (arith, few)) (λ zero_is. absurd (omega (arith, more, zero_is))) (no_more t) twice)
    where
      some : (q : ℕ) → (q == 0) ≡ false → 1 ≤ q
      some q h = grind (arith, nat_tests)

      no_more : (t : Bool) → k + (if t then n else 0) ≤ n + n
      no_more true = omega (arith, up)
      no_more false = omega (arith, up)

  -- the rounds of a whole product
  all_rounds : (n m : ℕ) (fl : Flags) → m < 2 ^ 32 → is_int (signed s n) ≡ true
      → Rounds (rounds_count (signed s n) m) 0 (part s n) m fl (signed s (n * m))
  all_rounds n m fl few fits =
      let all = rounds 32 (m / 2 == 0) (m % 2 == 1) 0 n m fl refl refl few few (λ e. refl) (omega arith) fits in
      let sum : 0 + n * m ≡ n * m = omega arith in
      let first : part s 0 ≡ 0 = ap word_of_int (signed_zero s) in
      subst (λ i. Rounds (rounds_count (signed s n) m) i (part s n) m fl (signed s (n * m))) first
      (subst (λ i. Rounds (rounds_count (signed s n) m) (part s 0) (part s n) m fl (signed s i)) sum all)

-- the signs, and then the rounds
module _ (P : Parts) (table : ℕ → ℕ) (vars areas : List ℕ) (v : ℤ) (fits : is_int v ≡ true) (m : ℕ) (few : m < 2 ^ 31) (fl : Flags) where
  abbrev Signs : (count x4 : ℕ) → ℤ → Type 0
  Signs count x4 z = Leads P table (signs_code ++ rounds_code) 9 count (now 0 fl vars areas) (word_of_int v) x4 z

  signs_above : fl.n ≡ false → Signs (1 + rounds_count v m) m (v *ℤ pos m)
  signs_above above =
      let g = sign_of v in
      let all = all_rounds P table vars areas g.sign g.size m fl (omega (arith, few)) (ap is_int (sym g.is) ∙ fits) in
      let whole = times_above v m in
      record {
        y0 = all.y0;
        y3 = all.y3;
        y4 = all.y4;
        fl = all.fl;
        leads = λ ctrl j f pc is code c.
            let bound = within P (pc + 1 + 1 + 1) _ is code.1.1.1.0 in
            let c1 = jumps_by Add Nc 3 (omega arith) c code.0 (ap not above) in
            let c2 : Mid P table ctrl (j + 1) f (pc + 1 + 1 + 1 + 1) (now 0 fl vars areas) (word_of_int v) m = mid_as c1 refl (omega (arith, bound)) in
            mid_as (all.leads ctrl (j + 1) f (pc + 1 + 1 + 1 + 1) is code.1.1.1.1 (mid_words c2 refl (ap word_of_int g.is) refl))
            (omega (arith, ap (λ z. rounds_count z m) g.is)) (omega arith);
        overflow = all.overflow ∙ ap (λ z. not (is_int z)) (sym whole);
        word = λ h. all.word (ap is_int (sym whole) ∙ h) ∙ ap word_of_int (sym whole);
      }

  -- the first three of the signs
  turned : fl.n ≡ true → (ctrl : List ℕ) (j : ℕ) (f : Fm) (pc : ℕ) → CodeAt P pc (signs_code ++ rounds_code)
      → Mid P table ctrl j f pc (now 0 fl vars areas) (word_of_int v) (word_of_int (negsuc m))
      → Mid P table ctrl (j + 1 + 1 + 1) f (pc + 1 + 1 + 1)
      (now 0 (flags_set flag_v fl (alu_of Neg fl.c (word_of_int v) (word_of_int v))) vars areas) ((2 ^ 32 - word_of_int v) % 2 ^ 32) (suc m)
  turned below ctrl j f pc code c =
      let c1 = stays Add Nc 3 (omega arith) c code.0 (ap not below) in
      let c2 = negate_r4 c1 code.1.0 in
      let c3 = into_r0 Neg c2 code.1.1.0 in
      let size : (2 ^ 32 - word_of_int (negsuc m)) % 2 ^ 32 ≡ suc m = omega (arith, few) in
      mid_words c3 refl refl size

  signs_below : (t : Bool) → is_int (neg_ℤ v) ≡ t → fl.n ≡ true
      → Signs (4 + (if t then rounds_count (neg_ℤ v) (suc m) else 0)) (word_of_int (negsuc m)) (v *ℤ negsuc m)
  signs_below true turns below =
      let g = sign_of v in
      let fl' = flags_set flag_v fl (alu_of Neg fl.c (word_of_int v) (word_of_int v)) in
      let all = all_rounds P table vars areas (not g.sign) g.size (suc m) fl' (omega (arith, few)) (ap is_int (sym g.minus) ∙ turns) in
      let whole = times_below v m in
      record {
        y0 = all.y0;
        y3 = all.y3;
        y4 = all.y4;
        fl = all.fl;
        leads = λ ctrl j f pc is code c.
            let c1 = turned below ctrl j f pc code c in
            let c2 = stays Add Vs 5 (omega arith) c1 code.1.1.1.0 (minus_overflows v fits ∙ ap not turns) in
            mid_as (all.leads ctrl (j + 1 + 1 + 1 + 1) f (pc + 1 + 1 + 1 + 1) is code.1.1.1.1
            (mid_words c2 refl (minus_word v fits turns ∙ ap word_of_int g.minus) refl))
            (omega (arith, ap (λ z. rounds_count z (suc m)) g.minus)) (omega arith);
        overflow = all.overflow ∙ ap (λ z. not (is_int z)) (sym whole);
        word = λ h. all.word (ap is_int (sym whole) ∙ h) ∙ ap word_of_int (sym whole);
      }
  signs_below false turns below =
      let g = sign_of v in
      let fl' = flags_set flag_v fl (alu_of Neg fl.c (word_of_int v) (word_of_int v)) in
      let near : g.size ≤ g.size * suc m = grows g.size in
      let far = further_fails (not g.sign) g.size (g.size * suc m) near (ap is_int (sym g.minus) ∙ turns) in
      let fails = ap is_int (times_below v m) ∙ far in
      record {
        y0 = (2 ^ 32 - word_of_int v) % 2 ^ 32;
        y3 = 0;
        y4 = suc m;
        fl = fl';
        leads = λ ctrl j f pc is code c.
            let c1 = turned below ctrl j f pc code c in
            let c2 = jumps_by Add Vs 5 (omega arith) c1 code.1.1.1.0 (minus_overflows v fits ∙ ap not turns) in
            let bound = within P (pc + 1 + 1 + 1 + 1 + 1 + 1 + 1 + 1) _ is code.1.1.1.1.1.1.1.1.0 in
            mid_as c2 (omega arith) (omega (arith, bound));
        overflow = minus_overflows v fits ∙ ap not turns ∙ sym (ap not fails);
        word = λ h. absurd (both_ways (is_int (v *ℤ negsuc m)) fails h);
      }
    where
      grows : (n : ℕ) → n ≤ n * suc m
      grows n = let more : n * 1 ≤ n * suc m = mul-le-mul_left n (omega arith) in omega (arith, more)

-- the factors' words in r0 and r4
module _ {P : Parts} {table : ℕ → ℕ} {a : Now} where
  loaded : (x y : Access) (i j v w : ℕ) → LeadsTo P table x i → LeadsTo P table y j → slice_get a.vars i ≡ Some v → slice_get a.vars j ≡ Some w
      → (ctrl : List ℕ) (s : Fm) (pc : ℕ) → At P table ctrl 0 s pc a → CodeAt P pc (factors_code x y)
      → Mid P table ctrl (find_count x + find_count y + 3) s (pc + length (factors_code x y))
      (record a { x3 = 0; fl = record a.fl { n = nat_le (2 ^ 31) w } }) v w
  loaded x y i j v w to_x to_y at_x at_y ctrl s pc c code =
      let kx = register_of x in
      let ky = register_of y in
      let ending = setting flag_n Move (reg 4) (at ky) ∷ [] in
      let middle = mov (reg 0) (at kx) ∷ (find_code y ++ ending) in
      let a0 : Now = record a { x3 = 0 } in
      let a1 : Now = record a { x3 = 0; fl = record a.fl { n = nat_le (2 ^ 31) w } } in
      let r = c.r in
      let w0 = rw (← c.r15_is) at code.0 in
      let c0 = target.into_r3 Move no_flags c.run (from_immediate 0 c.run (omega arith)) w0 in
      let h0 : At P table ctrl 1 s (pc + 1) a0 =
      at_of a0 c0 (omega arith) refl refl refl (λ k low high. untouched r (r 15 + 1) 3 0 k low high (omega arith) ∙ c.held k low high)
      refl (ap (λ p. p + 1) c.r15_is) in
      let fx = find x (P.end - 1 - i) to_x h0 (code_front P (pc + 1) (find_code x) middle code.1) in
      let hx = fx.here in
      let rest = code_after P (pc + 1) (find_code x) middle code.1 in
      let w1 = rw (← hx.r15_is) at rest.0 in
      let c1 = target.into_r0 Move no_flags hx.run (reads kx i v hx fx.address_is fx.high at_x) w1 in
      let rx = hx.r in
      let pc1 = pc + 1 + length (find_code x) in
      let h1 : Mid P table ctrl (1 + find_count x + 1) s (pc1 + 1) a0 v (rx 4) =
      mid_of a0 v (rx 4) c1 refl refl (λ k low high. untouched rx (rx 15 + 1) 0 v k low high (omega arith) ∙ hx.held k low high)
      refl hx.r3_is refl (ap (λ p. p + 1) hx.r15_is) in
      let h1' : At P table ctrl (1 + find_count x + 1) s (pc1 + 1) a0 =
      record { r = h1.r; run = h1.run; held = h1.held; r3_is = h1.r3_is; r15_is = h1.r15_is } in
      let fy = find y (P.end - 1 - j) to_y h1' (code_front P (pc1 + 1) (find_code y) ending rest.1) in
      let hy = fy.here in
      let w2 = rw (← hy.r15_is) at (code_after P (pc1 + 1) (find_code y) ending rest.1) in
      let c2 = target.into_r4 Move flag_n hy.run (reads ky j w hy fy.address_is fy.high at_y) w2.0 in
      let ry = hy.r in
      mid_of a1 v w c2 (omega arith) refl (λ k low high. untouched ry (ry 15 + 1) 4 w k low high (omega arith) ∙ hy.held k low high)
      (fy.r0_is ∙ h1.r0_is) hy.r3_is refl
      (omega (arith, hy.r15_is, length-append (find_code x) middle, length-append (find_code y) ending))

  -- the factors, and what follows them
  given : (x y : Access) (i j k : ℕ) (v w z : ℤ) → LeadsTo P table x i → LeadsTo P table y j → slice_get a.vars i ≡ Some (word_of_int v)
      → slice_get a.vars j ≡ Some (word_of_int w)
      → Leads P table (signs_code ++ rounds_code) 9 k (now 0 (record a.fl { n = nat_le (2 ^ 31) (word_of_int w) }) a.vars a.areas) (word_of_int v)
      (word_of_int w) z
      → Gives P table (product_code x y) (find_count x + find_count y + (3 + k)) a z
  given x y i j k v w z to_x to_y at_x at_y rest =
      record { x3 = rest.y3; fl = rest.fl; does = does law; overflow = rest.overflow; word = rest.word }
    where
      law : (ctrl : List ℕ) (s : Fm) (pc : ℕ) → At P table ctrl 0 s pc a → CodeAt P pc (product_code x y)
          → At P table ctrl (find_count x + find_count y + (3 + k)) s (pc + length (product_code x y)) (record a { x3 = rest.y3; fl = rest.fl })
      law ctrl s pc c code =
          let factors = factors_code x y in
          let others = signs_code ++ rounds_code in
          let start = loaded x y i j (word_of_int v) (word_of_int w) to_x to_y at_x at_y ctrl s pc c (code_front P pc factors others code) in
          let end = rest.leads ctrl (find_count x + find_count y + 3) s (pc + length factors) c.run.is (code_after P pc factors others code) start in
          let last = mid_as {n' = find_count x + find_count y + (3 + k)} {pc' = pc + length (product_code x y)} end (omega arith)
          (omega (arith, length-append factors others)) in
          record { r = last.r; run = last.run; held = last.held; r3_is = last.r3_is; r15_is = last.r15_is }

  pub product_row : (x y : Access) (i j : ℕ) (v w : ℤ) → LeadsTo P table x i → LeadsTo P table y j → slice_get a.vars i ≡ Some (word_of_int v)
      → slice_get a.vars j ≡ Some (word_of_int w) → is_int v ≡ true → is_int w ≡ true
      → Gives P table (product_code x y) (find_count x + find_count y + product_count v w) a (v *ℤ w)
  product_row x y i j v (pos m) to_x to_y at_x at_y fits_v fits_w =
      let few : m < 2 ^ 31 = ltb-true m (2 ^ 31) fits_w in
      let fl = record a.fl { n = nat_le (2 ^ 31) m } in
      given x y i j (1 + rounds_count v m) v (pos m) (v *ℤ pos m) to_x to_y at_x at_y
      (signs_above P table a.vars a.areas v fits_v m few fl (lt-leb (2 ^ 31) m few))
  product_row x y i j v (negsuc m) to_x to_y at_x at_y fits_v fits_w =
      let few : m < 2 ^ 31 = ltb-true m (2 ^ 31) fits_w in
      let w = word_of_int (negsuc m) in
      let fl = record a.fl { n = nat_le (2 ^ 31) w } in
      given x y i j (4 + (if is_int (neg_ℤ v) then rounds_count (neg_ℤ v) (suc m) else 0)) v (negsuc m) (v *ℤ negsuc m) to_x to_y at_x at_y
      (signs_below P table a.vars a.areas v fits_v m few fl (is_int (neg_ℤ v)) refl (le-leb (2 ^ 31) w (omega (arith, few))))
