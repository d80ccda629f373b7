-- Each operation's code does its row.
use Rattle.std.proofs.Common.{◌≡◌, ℕ, ◌+◌, ◌-◌, ◌*◌, ◌/◌, ◌%◌, ◌^◌, ◌<◌, ◌≤◌, ◌==◌, Bool, true, false, Ok, List, ◌∷◌, get_or, sym, ap, ◌∙◌, subst, arith}
use Rattle.std.{proofs.Common.⊎_elim, specs.Prelude.{not, ◌&&◌, ◌||◌, nat_lt, ℤ, pos, negsuc, ◌+ℤ◌, ◌-ℤ◌, ◌*ℤ◌, int_lt, unsigned_abs, bit_and, bit_or, bit_xor}}
use Rattle.std.{specs.Int.{from_bool as bit_of, cast_signed, w32}, proofs.lemmas.Bool.Decides.nat_tests, proofs.lemmas.Bool.{cases_lt, ltb-true, eqb-true}}
use Rattle.std.proofs.lemmas.Int.{ints as integers}
use Rattle.fm_words.{specs.Alu.are_same as are_same_tests, specs.Word.{is_int, is_nat, are_same_ints, word_of_int, wrapped}}
use Rattle.fm_words.proofs.WordLaws.{word_of_int-cast_signed, wrapped_below}
use Rattle.fm_code.{specs.Execution.{Parts, Executes, view}, specs.CodeRows.WordRows, specs.Templates.eq_code, proofs.RowLaws.{word_rows, move_rows}}
use Rattle.piton_words.{specs.declared.word.Word.Word, specs.declared.word.Word.TheVariants.{Int, Nat, Bitv, Bool as Truth, Addr, Pc, Subr}}
use Rattle.piton_words.{specs.declared.op.WordOp.WordOp, specs.declared.outcome.Outcome.Outcome, specs.declared.outcome.Outcome.TheVariants.{One, Two}}
use Rattle.piton_words.{specs.declared.outcome.WordError.TheVariants.Tag, specs.OperationRows.{row_of, is_offset}}
use Rattle.piton_words.specs.declared.op.WordOp.TheVariants as op
use Rattle.piton_semantics.{specs.Addresses.Addresses, specs.Templates.operation_code, proofs.OperationForms.{HasRoomFor, IsWordBy, TellApart, DoesOperation}}
use Rattle.piton_semantics.proofs.OperationViewLaws.{by_int, by_nat, by_bitv, by_bool, by_addr, by_true, by_ok, refused}

-- numbers without a sign, as exact numbers
fits_nat : (n : ℕ) → is_nat (pos n) ≡ true → n < 2 ^ 32
fits_nat n h = grind (arith, nat_tests)

sub_fits : (y x : ℕ) → is_nat (pos y -ℤ pos x) ≡ true → x ≤ y
sub_fits y x h = grind (arith, nat_tests, integers)

sub_abs : (y x : ℕ) → x ≤ y → unsigned_abs (pos y -ℤ pos x) ≡ y - x
sub_abs y x h = grind (arith, integers)

same_lt : (c q o : ℕ) → nat_lt (c + q) (c + o) ≡ nat_lt q o
same_lt c q o = grind (arith, nat_tests)

offset_fits : (lens : List ℕ) (a o x : ℕ) → is_offset lens a (pos o -ℤ pos x) ≡ true → x ≤ o
offset_fits lens a o x h = ⊎_elim negative (λ le. le) (cases_lt o x)
  where
    negative : o < x → x ≤ o
    negative lt =
        let e : pos o -ℤ pos x ≡ negsuc (x - o - 1) = grind (arith, integers) in
        let f : is_offset lens a (pos o -ℤ pos x) ≡ false = ap (is_offset lens a) e in
        absurd cc

module _ (P : Parts) (A : Addresses) (lens : List ℕ) (IsPlace : ℕ → ℕ → Type 0) (IsProgram : ℕ → Type 0) (is : TellApart A lens IsPlace IsProgram)
    (f pc : ℕ) (ctrl temp areas : List ℕ) where
  rows : WordRows P (view f pc ctrl temp areas)
  rows = word_rows P f pc ctrl temp areas

  W : Word → Type 0
  W w = IsWordBy lens IsPlace IsProgram w

  G : WordOp → Word → Word → Word → Outcome → Type 0
  G o third second top out = DoesOperation P A f pc ctrl temp areas o third second top out

  add_int : (third second top : Word) (out : Outcome) → row_of op.AddInt third second top lens ≡ Ok out → W third → W second → W top
      → G op.AddInt third second top out
  unfolding W G
  add_int third second top out h =
      by_int top _ out (λ w. W third → W second → W w → G op.AddInt third second w out) h (λ x h1.
      by_int second _ out (λ w. W third → W w → W (Int x) → G op.AddInt third w (Int x) out) h1 (λ y h2 u q p.
      by_true (is_int (y +ℤ x)) _ out _ h2 (λ r h3.
      by_ok (One (Int (y +ℤ x))) out (λ o. G op.AddInt third (Int y) (Int x) o) h3 (rows.add_int y x q p r))))

  sub_int : (third second top : Word) (out : Outcome) → row_of op.SubInt third second top lens ≡ Ok out → W third → W second → W top
      → G op.SubInt third second top out
  unfolding W G
  sub_int third second top out h =
      by_int top _ out (λ w. W third → W second → W w → G op.SubInt third second w out) h (λ x h1.
      by_int second _ out (λ w. W third → W w → W (Int x) → G op.SubInt third w (Int x) out) h1 (λ y h2 u q p.
      by_true (is_int (y -ℤ x)) _ out _ h2 (λ r h3.
      by_ok (One (Int (y -ℤ x))) out (λ o. G op.SubInt third (Int y) (Int x) o) h3 (rows.sub_int y x q p r))))

  lt_int : (third second top : Word) (out : Outcome) → row_of op.LtInt third second top lens ≡ Ok out → W third → W second → W top
      → G op.LtInt third second top out
  unfolding W G
  lt_int third second top out h =
      by_int top _ out (λ w. W third → W second → W w → G op.LtInt third second w out) h (λ x h1.
      by_int second _ out (λ w. W third → W w → W (Int x) → G op.LtInt third w (Int x) out) h1 (λ y h2 u q p.
      by_ok (One (Truth (int_lt y x))) out (λ o. G op.LtInt third (Int y) (Int x) o) h2 (rows.lt_int y x q p)))

  add_nat : (third second top : Word) (out : Outcome) → row_of op.AddNat third second top lens ≡ Ok out → W third → W second → W top
      → G op.AddNat third second top out
  unfolding W G
  add_nat third second top out h =
      by_nat top _ out (λ w. W third → W second → W w → G op.AddNat third second w out) h (λ x h1.
      by_nat second _ out (λ w. W third → W w → W (Nat x) → G op.AddNat third w (Nat x) out) h1 (λ y h2 u q p.
      by_true (is_nat (pos y +ℤ pos x)) _ out _ h2 (λ r h3.
      by_ok (One (Nat (y + x))) out (λ o. G op.AddNat third (Nat y) (Nat x) o) h3 (rows.add_nat y x (fits_nat (y + x) r)))))

  sub_nat : (third second top : Word) (out : Outcome) → row_of op.SubNat third second top lens ≡ Ok out → W third → W second → W top
      → G op.SubNat third second top out
  unfolding W G
  sub_nat third second top out h =
      by_nat top _ out (λ w. W third → W second → W w → G op.SubNat third second w out) h (λ x h1.
      by_nat second _ out (λ w. W third → W w → W (Nat x) → G op.SubNat third w (Nat x) out) h1 (λ y h2 u q p.
      by_true (is_nat (pos y -ℤ pos x)) _ out _ h2 (λ r h3.
      by_ok (One (Nat (unsigned_abs (pos y -ℤ pos x)))) out (λ o. G op.SubNat third (Nat y) (Nat x) o) h3
      (subst (λ v. Executes P (operation_code op.SubNat) 1 (view f pc ctrl (x ∷ y ∷ temp) areas) (view f (pc + 1) ctrl (v ∷ temp) areas))
      (sym (sub_abs y x (sub_fits y x r))) (rows.sub_nat y x (sub_fits y x r) q)))))

  lt_nat : (third second top : Word) (out : Outcome) → row_of op.LtNat third second top lens ≡ Ok out → W third → W second → W top
      → G op.LtNat third second top out
  unfolding W G
  lt_nat third second top out h =
      by_nat top _ out (λ w. W third → W second → W w → G op.LtNat third second w out) h (λ x h1.
      by_nat second _ out (λ w. W third → W w → W (Nat x) → G op.LtNat third w (Nat x) out) h1 (λ y h2 u q p.
      by_ok (One (Truth (nat_lt y x))) out (λ o. G op.LtNat third (Nat y) (Nat x) o) h2 (rows.lt_nat y x)))

  or_bitv : (third second top : Word) (out : Outcome) → row_of op.OrBitv third second top lens ≡ Ok out → W third → W second → W top
      → G op.OrBitv third second top out
  unfolding W G
  or_bitv third second top out h =
      by_bitv top _ out (λ w. W third → W second → W w → G op.OrBitv third second w out) h (λ x h1.
      by_bitv second _ out (λ w. W third → W w → W (Bitv x) → G op.OrBitv third w (Bitv x) out) h1 (λ y h2 u q p.
      by_ok (One (Bitv (bit_or x y))) out (λ o. G op.OrBitv third (Bitv y) (Bitv x) o) h2 (rows.or_bitv y x)))

  and_bitv : (third second top : Word) (out : Outcome) → row_of op.AndBitv third second top lens ≡ Ok out → W third → W second → W top
      → G op.AndBitv third second top out
  unfolding W G
  and_bitv third second top out h =
      by_bitv top _ out (λ w. W third → W second → W w → G op.AndBitv third second w out) h (λ x h1.
      by_bitv second _ out (λ w. W third → W w → W (Bitv x) → G op.AndBitv third w (Bitv x) out) h1 (λ y h2 u q p.
      by_ok (One (Bitv (bit_and x y))) out (λ o. G op.AndBitv third (Bitv y) (Bitv x) o) h2 (rows.and_bitv y x)))

  xor_bitv : (third second top : Word) (out : Outcome) → row_of op.XorBitv third second top lens ≡ Ok out → W third → W second → W top
      → G op.XorBitv third second top out
  unfolding W G
  xor_bitv third second top out h =
      by_bitv top _ out (λ w. W third → W second → W w → G op.XorBitv third second w out) h (λ x h1.
      by_bitv second _ out (λ w. W third → W w → W (Bitv x) → G op.XorBitv third w (Bitv x) out) h1 (λ y h2 u q p.
      by_ok (One (Bitv (bit_xor x y))) out (λ o. G op.XorBitv third (Bitv y) (Bitv x) o) h2 (rows.xor_bitv y x)))

  or_bool : (third second top : Word) (out : Outcome) → row_of op.OrBool third second top lens ≡ Ok out → W third → W second → W top
      → G op.OrBool third second top out
  unfolding W G
  or_bool third second top out h =
      by_bool top _ out (λ w. W third → W second → W w → G op.OrBool third second w out) h (λ x h1.
      by_bool second _ out (λ w. W third → W w → W (Truth x) → G op.OrBool third w (Truth x) out) h1 (λ y h2 u q p.
      by_ok (One (Truth (y || x))) out (λ o. G op.OrBool third (Truth y) (Truth x) o) h2 (rows.or_bool y x)))

  and_bool : (third second top : Word) (out : Outcome) → row_of op.AndBool third second top lens ≡ Ok out → W third → W second → W top
      → G op.AndBool third second top out
  unfolding W G
  and_bool third second top out h =
      by_bool top _ out (λ w. W third → W second → W w → G op.AndBool third second w out) h (λ x h1.
      by_bool second _ out (λ w. W third → W w → W (Truth x) → G op.AndBool third w (Truth x) out) h1 (λ y h2 u q p.
      by_ok (One (Truth (y && x))) out (λ o. G op.AndBool third (Truth y) (Truth x) o) h2 (rows.and_bool y x)))

  add1_int : (third second top : Word) (out : Outcome) → row_of op.Add1Int third second top lens ≡ Ok out → W third → W second → W top
      → G op.Add1Int third second top out
  unfolding W G
  add1_int third second top out h =
      by_int top _ out (λ w. W third → W second → W w → G op.Add1Int third second w out) h (λ x h1 u q p.
      by_true (is_int (x +ℤ pos 1)) _ out _ h1 (λ r h3.
      by_ok (One (Int (x +ℤ pos 1))) out (λ o. G op.Add1Int third second (Int x) o) h3 (rows.add1_int x p r)))

  sub1_int : (third second top : Word) (out : Outcome) → row_of op.Sub1Int third second top lens ≡ Ok out → W third → W second → W top
      → G op.Sub1Int third second top out
  unfolding W G
  sub1_int third second top out h =
      by_int top _ out (λ w. W third → W second → W w → G op.Sub1Int third second w out) h (λ x h1 u q p.
      by_true (is_int (x -ℤ pos 1)) _ out _ h1 (λ r h3.
      by_ok (One (Int (x -ℤ pos 1))) out (λ o. G op.Sub1Int third second (Int x) o) h3 (rows.sub1_int x p r)))

  neg_int : (third second top : Word) (out : Outcome) → row_of op.NegInt third second top lens ≡ Ok out → W third → W second → W top
      → G op.NegInt third second top out
  unfolding W G
  neg_int third second top out h =
      by_int top _ out (λ w. W third → W second → W w → G op.NegInt third second w out) h (λ x h1 u q p.
      by_true (is_int (pos 0 -ℤ x)) _ out _ h1 (λ r h3.
      by_ok (One (Int (pos 0 -ℤ x))) out (λ o. G op.NegInt third second (Int x) o) h3 (rows.neg_int x p r)))

  add1_nat : (third second top : Word) (out : Outcome) → row_of op.Add1Nat third second top lens ≡ Ok out → W third → W second → W top
      → G op.Add1Nat third second top out
  unfolding W G
  add1_nat third second top out h =
      by_nat top _ out (λ w. W third → W second → W w → G op.Add1Nat third second w out) h (λ x h1 u q p.
      by_true (is_nat (pos x +ℤ pos 1)) _ out _ h1 (λ r h3.
      by_ok (One (Nat (x + 1))) out (λ o. G op.Add1Nat third second (Nat x) o) h3 (rows.add1_nat x (fits_nat (x + 1) r))))

  sub1_nat : (third second top : Word) (out : Outcome) → row_of op.Sub1Nat third second top lens ≡ Ok out → W third → W second → W top
      → G op.Sub1Nat third second top out
  unfolding W G
  sub1_nat third second top out h =
      by_nat top _ out (λ w. W third → W second → W w → G op.Sub1Nat third second w out) h (λ x h1 u q p.
      by_true (is_nat (pos x -ℤ pos 1)) _ out _ h1 (λ r h3.
      by_ok (One (Nat (unsigned_abs (pos x -ℤ pos 1)))) out (λ o. G op.Sub1Nat third second (Nat x) o) h3
      (subst (λ v. Executes P (operation_code op.Sub1Nat) 1 (view f pc ctrl (x ∷ temp) areas) (view f (pc + 1) ctrl (v ∷ temp) areas))
      (sym (sub_abs x 1 (sub_fits x 1 r))) (rows.sub1_nat x (sub_fits x 1 r) p))))

  mult2_nat : (third second top : Word) (out : Outcome) → row_of op.Mult2Nat third second top lens ≡ Ok out → W third → W second → W top
      → G op.Mult2Nat third second top out
  unfolding W G
  mult2_nat third second top out h =
      by_nat top _ out (λ w. W third → W second → W w → G op.Mult2Nat third second w out) h (λ x h1 u q p.
      by_true (is_nat (pos 2 *ℤ pos x)) _ out _ h1 (λ r h3.
      by_ok (One (Nat (2 * x))) out (λ o. G op.Mult2Nat third second (Nat x) o) h3 (rows.mult2_nat x (fits_nat (2 * x) r))))

  not_bitv : (third second top : Word) (out : Outcome) → row_of op.NotBitv third second top lens ≡ Ok out → W third → W second → W top
      → G op.NotBitv third second top out
  unfolding W G
  not_bitv third second top out h =
      by_bitv top _ out (λ w. W third → W second → W w → G op.NotBitv third second w out) h (λ x h1 u q p.
      by_ok (One (Bitv (2 ^ 32 - 1 - x))) out (λ o. G op.NotBitv third second (Bitv x) o) h1 (rows.not_bitv x))

  rsh_bitv : (third second top : Word) (out : Outcome) → row_of op.RshBitv third second top lens ≡ Ok out → W third → W second → W top
      → G op.RshBitv third second top out
  unfolding W G
  rsh_bitv third second top out h =
      by_bitv top _ out (λ w. W third → W second → W w → G op.RshBitv third second w out) h (λ x h1 u q p.
      by_ok (One (Bitv (x / 2))) out (λ o. G op.RshBitv third second (Bitv x) o) h1 (rows.rsh_bitv x))

  lsh_bitv : (third second top : Word) (out : Outcome) → row_of op.LshBitv third second top lens ≡ Ok out → W third → W second → W top
      → G op.LshBitv third second top out
  unfolding W G
  lsh_bitv third second top out h =
      by_bitv top _ out (λ w. W third → W second → W w → G op.LshBitv third second w out) h (λ x h1 u q p.
      by_ok (One (Bitv (2 * x % 2 ^ 32))) out (λ o. G op.LshBitv third second (Bitv x) o) h1 (rows.lsh_bitv x))

  not_bool : (third second top : Word) (out : Outcome) → row_of op.NotBool third second top lens ≡ Ok out → W third → W second → W top
      → G op.NotBool third second top out
  unfolding W G
  not_bool third second top out h =
      by_bool top _ out (λ w. W third → W second → W w → G op.NotBool third second w out) h (λ x h1 u q p.
      by_ok (One (Truth (not x))) out (λ o. G op.NotBool third second (Truth x) o) h1 (rows.not_bool x))

  add_int_with_carry : (third second top : Word) (out : Outcome) → row_of op.AddIntWithCarry third second top lens ≡ Ok out → W third → W second → W top
      → G op.AddIntWithCarry third second top out
  unfolding W G
  add_int_with_carry third second top out h =
      by_int top _ out (λ w. W third → W second → W w → G op.AddIntWithCarry third second w out) h (λ x h1.
      by_int second _ out (λ w. W third → W w → W (Int x) → G op.AddIntWithCarry third w (Int x) out) h1 (λ y h2.
      by_bool third _ out (λ w. W w → W (Int y) → W (Int x) → G op.AddIntWithCarry w (Int y) (Int x) out) h2 (λ b h3 u q p.
      by_ok (Two (Truth (not (is_int (y +ℤ x +ℤ pos (bit_of b))))) (Int (cast_signed w32 (wrapped (y +ℤ x +ℤ pos (bit_of b)))))) out
      (λ o. G op.AddIntWithCarry (Truth b) (Int y) (Int x) o) h3
      (subst (λ v. Executes P (operation_code op.AddIntWithCarry) 7 (view f pc ctrl (word_of_int x ∷ word_of_int y ∷ bit_of b ∷ temp) areas)
      (view f (pc + 7) ctrl (v ∷ bit_of (not (is_int (y +ℤ x +ℤ pos (bit_of b)))) ∷ temp) areas))
      (sym (word_of_int-cast_signed (wrapped (y +ℤ x +ℤ pos (bit_of b))) (wrapped_below (y +ℤ x +ℤ pos (bit_of b)))))
      (rows.add_int_with_carry b y x q p)))))

  sub_int_with_carry : (third second top : Word) (out : Outcome) → row_of op.SubIntWithCarry third second top lens ≡ Ok out → W third → W second → W top
      → G op.SubIntWithCarry third second top out
  unfolding W G
  sub_int_with_carry third second top out h =
      by_int top _ out (λ w. W third → W second → W w → G op.SubIntWithCarry third second w out) h (λ x h1.
      by_int second _ out (λ w. W third → W w → W (Int x) → G op.SubIntWithCarry third w (Int x) out) h1 (λ y h2.
      by_bool third _ out (λ w. W w → W (Int y) → W (Int x) → G op.SubIntWithCarry w (Int y) (Int x) out) h2 (λ b h3 u q p.
      by_ok (Two (Truth (not (is_int (y -ℤ x -ℤ pos (bit_of b))))) (Int (cast_signed w32 (wrapped (y -ℤ x -ℤ pos (bit_of b)))))) out
      (λ o. G op.SubIntWithCarry (Truth b) (Int y) (Int x) o) h3
      (subst (λ v. Executes P (operation_code op.SubIntWithCarry) 7 (view f pc ctrl (word_of_int x ∷ word_of_int y ∷ bit_of b ∷ temp) areas)
      (view f (pc + 7) ctrl (v ∷ bit_of (not (is_int (y -ℤ x -ℤ pos (bit_of b)))) ∷ temp) areas))
      (sym (word_of_int-cast_signed (wrapped (y -ℤ x -ℤ pos (bit_of b))) (wrapped_below (y -ℤ x -ℤ pos (bit_of b)))))
      (rows.sub_int_with_carry b y x q p)))))

  add_nat_with_carry : (third second top : Word) (out : Outcome) → row_of op.AddNatWithCarry third second top lens ≡ Ok out → W third → W second → W top
      → G op.AddNatWithCarry third second top out
  unfolding W G
  add_nat_with_carry third second top out h =
      by_nat top _ out (λ w. W third → W second → W w → G op.AddNatWithCarry third second w out) h (λ x h1.
      by_nat second _ out (λ w. W third → W w → W (Nat x) → G op.AddNatWithCarry third w (Nat x) out) h1 (λ y h2.
      by_bool third _ out (λ w. W w → W (Nat y) → W (Nat x) → G op.AddNatWithCarry w (Nat y) (Nat x) out) h2 (λ b h3 u q p.
      by_ok (Two (Truth (not (is_nat (pos y +ℤ pos x +ℤ pos (bit_of b))))) (Nat (wrapped (pos y +ℤ pos x +ℤ pos (bit_of b))))) out
      (λ o. G op.AddNatWithCarry (Truth b) (Nat y) (Nat x) o) h3 (rows.add_nat_with_carry b y x))))

  sub_nat_with_carry : (third second top : Word) (out : Outcome) → row_of op.SubNatWithCarry third second top lens ≡ Ok out → W third → W second → W top
      → G op.SubNatWithCarry third second top out
  unfolding W G
  sub_nat_with_carry third second top out h =
      by_nat top _ out (λ w. W third → W second → W w → G op.SubNatWithCarry third second w out) h (λ x h1.
      by_nat second _ out (λ w. W third → W w → W (Nat x) → G op.SubNatWithCarry third w (Nat x) out) h1 (λ y h2.
      by_bool third _ out (λ w. W w → W (Nat y) → W (Nat x) → G op.SubNatWithCarry w (Nat y) (Nat x) out) h2 (λ b h3 u q p.
      by_ok (Two (Truth (not (is_nat (pos y -ℤ pos x -ℤ pos (bit_of b))))) (Nat (wrapped (pos y -ℤ pos x -ℤ pos (bit_of b))))) out
      (λ o. G op.SubNatWithCarry (Truth b) (Nat y) (Nat x) o) h3 (rows.sub_nat_with_carry b y x q p))))

  mult2_nat_with_carry_out : (third second top : Word) (out : Outcome) → row_of op.Mult2NatWithCarryOut third second top lens ≡ Ok out → W third
      → W second → W top → HasRoomFor op.Mult2NatWithCarryOut P temp → G op.Mult2NatWithCarryOut third second top out
  unfolding W G
  mult2_nat_with_carry_out third second top out h =
      by_nat top _ out (λ w. W third → W second → W w → HasRoomFor op.Mult2NatWithCarryOut P temp → G op.Mult2NatWithCarryOut third second w out) h
      (λ x h1 u q p room.
      by_ok (Two (Truth (not (is_nat (pos 2 *ℤ pos x)))) (Nat (wrapped (pos 2 *ℤ pos x)))) out (λ o. G op.Mult2NatWithCarryOut third second (Nat x) o)
      h1 (rows.mult2_nat_with_carry_out x room))

  div2_nat : (third second top : Word) (out : Outcome) → row_of op.Div2Nat third second top lens ≡ Ok out → W third → W second → W top
      → HasRoomFor op.Div2Nat P temp → G op.Div2Nat third second top out
  unfolding W G
  div2_nat third second top out h =
      by_nat top _ out (λ w. W third → W second → W w → HasRoomFor op.Div2Nat P temp → G op.Div2Nat third second w out) h (λ x h1 u q p room.
      by_ok (Two (Nat (x / 2)) (Nat (x % 2))) out (λ o. G op.Div2Nat third second (Nat x) o) h1 (rows.div2_nat x room))

  -- a natural number and an address
  add_addr : (third second top : Word) (out : Outcome) → row_of op.AddAddr third second top lens ≡ Ok out → W third → W second → W top
      → G op.AddAddr third second top out
  unfolding W G
  add_addr third second top out h =
      by_nat top _ out (λ w. W third → W second → W w → G op.AddAddr third second w out) h (λ x h1.
      by_addr second _ out (λ w. W third → W w → W (Nat x) → G op.AddAddr third w (Nat x) out) h1 (λ a o h2 u q p.
      by_true (nat_lt (o + x) (get_or lens a 0)) _ out _ h2 (λ r h3.
      by_ok (One (Addr a (o + x))) out (λ v. G op.AddAddr third (Addr a o) (Nat x) v) h3 (moved_up a o x (ltb-true _ _ r)))))
    where
      moved_up : (a o x : ℕ) → o + x < get_or lens a 0 → G op.AddAddr third (Addr a o) (Nat x) (One (Addr a (o + x)))
      moved_up a o x r =
          let b = is.below a (o + x) r in
          let e : A.area_at a + o + x ≡ A.area_at a + (o + x) = omega arith in
          subst (λ v. Executes P (operation_code op.AddAddr) 1 (view f pc ctrl (x ∷ (A.area_at a + o) ∷ temp) areas)
          (view f (pc + 1) ctrl (v ∷ temp) areas)) e (rows.add_nat (A.area_at a + o) x (omega arith))

  sub_addr : (third second top : Word) (out : Outcome) → row_of op.SubAddr third second top lens ≡ Ok out → W third → W second → W top
      → G op.SubAddr third second top out
  unfolding W G
  sub_addr third second top out h =
      by_nat top _ out (λ w. W third → W second → W w → G op.SubAddr third second w out) h (λ x h1.
      by_addr second _ out (λ w. W third → W w → W (Nat x) → G op.SubAddr third w (Nat x) out) h1 (λ a o h2 u q p.
      by_true (is_offset lens a (pos o -ℤ pos x)) _ out _ h2 (λ r h3.
      by_ok (One (Addr a (unsigned_abs (pos o -ℤ pos x)))) out (λ v. G op.SubAddr third (Addr a o) (Nat x) v) h3
      (moved_down a o x q (offset_fits lens a o x r)))))
    where
      moved_down : (a o x : ℕ) → o < get_or lens a 0 → x ≤ o → G op.SubAddr third (Addr a o) (Nat x) (One (Addr a (unsigned_abs (pos o -ℤ pos x))))
      moved_down a o x q r =
          let b = is.below a o q in
          let e : A.area_at a + o - x ≡ A.area_at a + unsigned_abs (pos o -ℤ pos x) = rw (sub_abs o x r) (omega arith) in
          subst (λ v. Executes P (operation_code op.SubAddr) 1 (view f pc ctrl (x ∷ (A.area_at a + o) ∷ temp) areas)
          (view f (pc + 1) ctrl (v ∷ temp) areas)) e (rows.sub_nat (A.area_at a + o) x (omega arith) b)

  lt_addr : (third second top : Word) (out : Outcome) → row_of op.LtAddr third second top lens ≡ Ok out → W third → W second → W top
      → G op.LtAddr third second top out
  unfolding W G
  lt_addr third second top out h =
      by_addr top _ out (λ w. W third → W second → W w → G op.LtAddr third second w out) h (λ b x h1.
      by_addr second _ out (λ w. W third → W w → W (Addr b x) → G op.LtAddr third w (Addr b x) out) h1 (λ a o h2 u q p.
      by_true (a == b) _ out _ h2 (λ r h3.
      by_ok (One (Truth (nat_lt o x))) out (λ v. G op.LtAddr third (Addr a o) (Addr b x) v) h3 (compared a o b x (eqb-true a b r)))))
    where
      compared : (a o b x : ℕ) → a ≡ b → G op.LtAddr third (Addr a o) (Addr b x) (One (Truth (nat_lt o x)))
      compared a o b x e =
          let t : nat_lt (A.area_at a + o) (A.area_at b + x) ≡ nat_lt o x =
          ap (λ c. nat_lt (A.area_at a + o) (A.area_at c + x)) (sym e) ∙ same_lt (A.area_at a) o x in
          subst (λ v. Executes P (operation_code op.LtAddr) 5 (view f pc ctrl ((A.area_at b + x) ∷ (A.area_at a + o) ∷ temp) areas)
          (view f (pc + 5) ctrl (bit_of v ∷ temp) areas)) t (rows.lt_nat (A.area_at a + o) (A.area_at b + x))

  int_to_nat : (third second top : Word) (out : Outcome) → row_of op.IntToNat third second top lens ≡ Ok out → W third → W second → W top
      → G op.IntToNat third second top out
  unfolding W G
  int_to_nat third second top out h =
      by_int top _ out (λ w. W third → W second → W w → G op.IntToNat third second w out) h (λ x h1 u q p.
      by_true (is_nat x) _ out _ h1 (λ r h3.
      by_ok (One (Nat (unsigned_abs x))) out (λ v. G op.IntToNat third second (Int x) v) h3 (kept x r)))
    where
      kept : (x : ℤ) → is_nat x ≡ true → G op.IntToNat third second (Int x) (One (Nat (unsigned_abs x)))
      kept (pos n) r = (move_rows P f pc ctrl (n ∷ temp) areas).no_op
      kept (negsuc n) r = absurd cc

  -- the words y and x tested, where that is the test t
  tested : (y x : ℕ) (t : Bool) → (y == x) ≡ t → Executes P eq_code 4 (view f pc ctrl (x ∷ y ∷ temp) areas) (view f (pc + 4) ctrl (bit_of t ∷ temp) areas)
  tested y x t e =
      subst (λ v. Executes P eq_code 4 (view f pc ctrl (x ∷ y ∷ temp) areas) (view f (pc + 4) ctrl (bit_of v ∷ temp) areas)) e (rows.eq y x)

  -- two words of one tag
  eq : (third second top : Word) (out : Outcome) → row_of op.Eq third second top lens ≡ Ok out → W third → W second → W top → G op.Eq third second top out
  unfolding W G
  eq third (Int y) (Int x) out h u q p =
      by_ok (One (Truth (are_same_ints y x))) out (λ v. G op.Eq third (Int y) (Int x) v) h (rows.eq_int y x q p)
  eq third (Nat y) (Nat x) out h u q p =
      by_ok (One (Truth (y == x))) out (λ v. G op.Eq third (Nat y) (Nat x) v) h (rows.eq y x)
  eq third (Bitv y) (Bitv x) out h u q p =
      by_ok (One (Truth (y == x))) out (λ v. G op.Eq third (Bitv y) (Bitv x) v) h (rows.eq y x)
  eq third (Truth y) (Truth x) out h u q p =
      by_ok (One (Truth (are_same_tests y x))) out (λ v. G op.Eq third (Truth y) (Truth x) v) h (rows.eq_bool y x)
  eq third (Addr a o) (Addr b x) out h u q p =
      by_ok (One (Truth (a == b && o == x))) out (λ v. G op.Eq third (Addr a o) (Addr b x) v) h
      (tested (A.area_at a + o) (A.area_at b + x) (a == b && o == x) (is.same_addr a o b x q p))
  eq third (Pc a o) (Pc b x) out h u q p =
      by_ok (One (Truth (a == b && o == x))) out (λ v. G op.Eq third (Pc a o) (Pc b x) v) h
      (tested (A.place_at a o) (A.place_at b x) (a == b && o == x) (is.same_pc a o b x q p))
  eq third (Subr a) (Subr b) out h u q p =
      by_ok (One (Truth (a == b))) out (λ v. G op.Eq third (Subr a) (Subr b) v) h (tested (A.entry_at a) (A.entry_at b) (a == b) (is.same_subr a b q p))
  eq third second top out h u q p = refused Tag out h

  -- the code of each operation does its row
  pub each_operation : (o : WordOp) (third second top : Word) (out : Outcome) → row_of o third second top lens ≡ Ok out
      → IsWordBy lens IsPlace IsProgram third → IsWordBy lens IsPlace IsProgram second → IsWordBy lens IsPlace IsProgram top → HasRoomFor o P temp
      → DoesOperation P A f pc ctrl temp areas o third second top out
  unfolding W G
  each_operation op.Eq third second top out h u q p room = eq third second top out h u q p
  each_operation op.AddInt third second top out h u q p room = add_int third second top out h u q p
  each_operation op.AddNat third second top out h u q p room = add_nat third second top out h u q p
  each_operation op.SubInt third second top out h u q p room = sub_int third second top out h u q p
  each_operation op.SubNat third second top out h u q p room = sub_nat third second top out h u q p
  each_operation op.AddAddr third second top out h u q p room = add_addr third second top out h u q p
  each_operation op.SubAddr third second top out h u q p room = sub_addr third second top out h u q p
  each_operation op.LtInt third second top out h u q p room = lt_int third second top out h u q p
  each_operation op.LtNat third second top out h u q p room = lt_nat third second top out h u q p
  each_operation op.LtAddr third second top out h u q p room = lt_addr third second top out h u q p
  each_operation op.Add1Int third second top out h u q p room = add1_int third second top out h u q p
  each_operation op.Add1Nat third second top out h u q p room = add1_nat third second top out h u q p
  each_operation op.Sub1Int third second top out h u q p room = sub1_int third second top out h u q p
  each_operation op.Sub1Nat third second top out h u q p room = sub1_nat third second top out h u q p
  each_operation op.NegInt third second top out h u q p room = neg_int third second top out h u q p
  each_operation op.IntToNat third second top out h u q p room = int_to_nat third second top out h u q p
  each_operation op.Mult2Nat third second top out h u q p room = mult2_nat third second top out h u q p
  each_operation op.AddIntWithCarry third second top out h u q p room = add_int_with_carry third second top out h u q p
  each_operation op.AddNatWithCarry third second top out h u q p room = add_nat_with_carry third second top out h u q p
  each_operation op.SubIntWithCarry third second top out h u q p room = sub_int_with_carry third second top out h u q p
  each_operation op.SubNatWithCarry third second top out h u q p room = sub_nat_with_carry third second top out h u q p
  each_operation op.Mult2NatWithCarryOut third second top out h u q p room = mult2_nat_with_carry_out third second top out h u q p room
  each_operation op.Div2Nat third second top out h u q p room = div2_nat third second top out h u q p room
  each_operation op.OrBitv third second top out h u q p room = or_bitv third second top out h u q p
  each_operation op.AndBitv third second top out h u q p room = and_bitv third second top out h u q p
  each_operation op.XorBitv third second top out h u q p room = xor_bitv third second top out h u q p
  each_operation op.OrBool third second top out h u q p room = or_bool third second top out h u q p
  each_operation op.AndBool third second top out h u q p room = and_bool third second top out h u q p
  each_operation op.NotBitv third second top out h u q p room = not_bitv third second top out h u q p
  each_operation op.RshBitv third second top out h u q p room = rsh_bitv third second top out h u q p
  each_operation op.LshBitv third second top out h u q p room = lsh_bitv third second top out h u q p
  each_operation op.NotBool third second top out h u q p room = not_bool third second top out h u q p
