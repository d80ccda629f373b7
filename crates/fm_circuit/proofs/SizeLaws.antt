-- Each value fits its wire.
use Rattle.std.proofs.Common.{◌≡◌, ℕ, zero, suc, ◌+◌, ◌-◌, ◌*◌, ◌%◌, ◌^◌, ◌<◌, ◌==◌, ◌&&◌, Bool, true, false, List, [], ◌∷◌, length, Option, Some, None, refl}
use Rattle.std.{proofs.Common.{sym, subst, arith, if◌then◌else◌}, proofs.lemmas.Bool.{eqb-true, ltb-true, and_parts}, proofs.lemmas.Nat.{pow_pos, pow-add}}
use Rattle.std.{proofs.lemmas.Nat.{and_le_l, or_lt, xor_lt}, proofs.Math.Nat.mod-lt, specs.Prelude.{map, not, is_some, unwrap_or, slice_set, nat_lt, nat_le}}
use Rattle.std.{specs.Prelude.slice_index, specs.List.list_all, specs.Int.from_bool as bit_of}
use Rattle.fm_words.proofs.FlagsLaws.{bit_small}
use Rattle.fm_circuit.{specs.declared.wire.Wire.Wire, specs.declared.circuit.Pin.Pin, specs.declared.circuit.Pin.TheVariants.{Whole, Bits, Constant}}
use Rattle.fm_circuit.{specs.declared.circuit.Driver.Driver, specs.declared.circuit.Driver.TheVariants.{Register, Input, FileRead, Not, And, Or, Xor, Join}}
use Rattle.fm_circuit.{specs.declared.circuit.Driver.TheVariants.{Add, Equal, Two, Four, Eight, Sixteen}, specs.Widths.width_of, specs.Circuit.{Kept, pin_of}}
use Rattle.fm_circuit.{specs.Circuit.{pin_width, chosen, driven, settled, taken, reset_of, above}, specs.Board.{Board, cycle, reset_cycle, on_board, registers}}
use Rattle.fm_circuit.{specs.Board.levels, specs.Processor.driver_of, specs.Following.AreWords, specs.Sizes.{register_widths, input_widths, has_width}}
use Rattle.fm_circuit.{specs.Sizes.{is_choice, is_sized, FitWidths, FitsBoard, Fitting}, proofs.WordsLaws.{words_set, words_with, word_found}}
use Rattle.fm_circuit.specs.declared.wire.Wire.TheVariants as w
use Rattle.fm_machine.specs.State.{word_at, with_word}

product : (x y m n : ℕ) → x < m → y < n → x * n + y < m * n
product x y m n g h = grind arith

pub width_is : (width : ℕ) (p : Pin) → has_width width p ≡ true → pin_width p ≡ width
width_is width (Whole wire) h = eqb-true (width_of wire) width h
width_is width (Bits wire high low) h =
    eqb-true (high + 1 - low) width (and_parts (nat_le low high && nat_lt high (width_of wire)) (high + 1 - low == width) h).1
width_is width (Constant own value) h = eqb-true own width (and_parts (own == width) (nat_lt value (2 ^ width)) h).0

module _ (on : Wire → ℕ) (fit : (wire : Wire) → on wire < 2 ^ width_of wire) where
  pub pin_fits : (width : ℕ) (p : Pin) → has_width width p ≡ true → pin_of on p < 2 ^ width
  pin_fits width (Whole wire) h = subst (λ n. on wire < 2 ^ n) (eqb-true (width_of wire) width h) (fit wire)
  pin_fits width (Bits wire high low) h =
      let parts = and_parts (nat_le low high && nat_lt high (width_of wire)) (high + 1 - low == width) h in
      subst (λ n. above (on wire) low % 2 ^ n < 2 ^ width) (sym (eqb-true (high + 1 - low) width parts.1)) (mod-lt (above (on wire) low) (pow_pos width))
  pin_fits width (Constant own value) h = ltb-true value (2 ^ width) (and_parts (own == width) (nat_lt value (2 ^ width)) h).1

  one_fits : (width : ℕ) (among : List Pin) (i : ℕ) → list_all (has_width width) among ≡ true → slice_index (map (pin_of on) among) i < 2 ^ width
  one_fits width [] i h = pow_pos width
  one_fits width (p ∷ among) zero h = pin_fits width p (and_parts (has_width width p) (list_all (has_width width) among) h).0
  one_fits width (p ∷ among) (suc i) h = one_fits width among i (and_parts (has_width width p) (list_all (has_width width) among) h).1

  choice_fits : (width bits : ℕ) (by : Pin) (among : List Pin) → is_choice width bits by among ≡ true → chosen on by among < 2 ^ width
  choice_fits width bits by among h =
      one_fits width among (pin_of on by) (and_parts (has_width bits by && (length among == 2 ^ bits)) (list_all (has_width width) among) h).1

  module _ (kept : Kept) (inputs : List ℕ) (registers : FitWidths register_widths kept.registers) (file : AreWords kept.file)
      (given : FitWidths input_widths inputs) where
    pub driven_fits : (width : ℕ) (d : Driver) → is_sized width d ≡ true → driven kept inputs on d < 2 ^ width
    driven_fits width (Register number reset next) h =
        let parts = and_parts ((slice_index register_widths number == width) && nat_lt reset (2 ^ width)) (has_width width next) h in
        let same = eqb-true (slice_index register_widths number) width
        (and_parts (slice_index register_widths number == width) (nat_lt reset (2 ^ width)) parts.0).0 in
        subst (λ n. slice_index kept.registers number < 2 ^ n) same (registers number)
    driven_fits width (Input number) h = subst (λ n. slice_index inputs number < 2 ^ n) (eqb-true (slice_index input_widths number) width h) (given number)
    driven_fits width (FileRead number) h =
        let same = eqb-true width 32 (and_parts (width == 32) (has_width 4 number) h).0 in
        subst (λ n. slice_index kept.file (pin_of on number) < 2 ^ n) (sym same) (file (pin_of on number))
    driven_fits width (Not p) h = rw (width_is width p h) (omega (arith, pow_pos width))
    driven_fits width (And p q) h =
        let fits = pin_fits width p (and_parts (has_width width p) (has_width width q) h).0 in
        omega (arith, fits, and_le_l (pin_of on p) (pin_of on q))
    driven_fits width (Or p q) h =
        let parts = and_parts (has_width width p) (has_width width q) h in
        or_lt width (pin_of on p) (pin_of on q) (pin_fits width p parts.0) (pin_fits width q parts.1)
    driven_fits width (Xor p q) h =
        let parts = and_parts (has_width width p) (has_width width q) h in
        xor_lt width (pin_of on p) (pin_of on q) (pin_fits width p parts.0) (pin_fits width q parts.1)
    driven_fits width (Join p q) h =
        let parts = and_parts (has_width (pin_width p) p && has_width (pin_width q) q) (pin_width p + pin_width q == width) h in
        let both = and_parts (has_width (pin_width p) p) (has_width (pin_width q) q) parts.0 in
        subst (λ n. pin_of on p * 2 ^ pin_width q + pin_of on q < 2 ^ n) (eqb-true (pin_width p + pin_width q) width parts.1)
        (joined (pin_of on p) (pin_of on q) (pin_width p) (pin_width q) (pin_fits (pin_width p) p both.0) (pin_fits (pin_width q) q both.1))
      where
        joined : (x y m n : ℕ) → x < 2 ^ m → y < 2 ^ n → x * 2 ^ n + y < 2 ^ (m + n)
        joined x y m n g h = rw (pow-add 2 m n) (product x y (2 ^ m) (2 ^ n) g h)
    driven_fits width (Add p q carry) h =
        let parts = and_parts (has_width (pin_width p) p && has_width (pin_width p) q && has_width 1 carry) (pin_width p + 1 == width) h in
        let three = and_parts (has_width (pin_width p) p && has_width (pin_width p) q) (has_width 1 carry) parts.0 in
        let two = and_parts (has_width (pin_width p) p) (has_width (pin_width p) q) three.0 in
        subst (λ n. pin_of on p + pin_of on q + pin_of on carry < 2 ^ n) (eqb-true (pin_width p + 1) width parts.1)
        (added (pin_of on p) (pin_of on q) (pin_of on carry) (pin_width p) (pin_fits (pin_width p) p two.0) (pin_fits (pin_width p) q two.1)
        (pin_fits 1 carry three.1))
      where
        added : (x y c n : ℕ) → x < 2 ^ n → y < 2 ^ n → c < 2 ^ 1 → x + y + c < 2 ^ (n + 1)
        added x y c n g h k = let e : 2 ^ (n + 1) ≡ 2 ^ n * 2 ^ 1 = pow-add 2 n 1 in omega (arith, e)
    driven_fits width (Equal p q) h =
        let same = eqb-true width 1 (and_parts (width == 1) (has_width (pin_width p) p)
        (and_parts ((width == 1) && has_width (pin_width p) p) (has_width (pin_width p) q) h).0).0 in
        subst (λ n. bit_of (pin_of on p == pin_of on q) < 2 ^ n) (sym same) (omega (arith, bit_small (pin_of on p == pin_of on q)))
    driven_fits width (Two by among) h = choice_fits width 1 by among h
    driven_fits width (Four by among) h = choice_fits width 2 by among h
    driven_fits width (Eight by among) h = choice_fits width 3 by among h
    driven_fits width (Sixteen by among) h = choice_fits width 4 by among h

-- each wire of the processor is sized
pub sized : (wire : Wire) → is_sized (width_of wire) (driver_of wire) ≡ true
unfolding driver_of
sized w.Phase = refl
sized w.Ir = refl
sized w.A = refl
sized w.B = refl
sized w.At = refl
sized w.C = refl
sized w.V = refl
sized w.N = refl
sized w.Z = refl
sized w.Read = refl
sized w.Outside = refl
sized w.ModeA = refl
sized w.Mode = refl
sized w.Number = refl
sized w.Own = refl
sized w.Delta = refl
sized w.Moved = refl
sized w.Address = refl
sized w.InMemory = refl
sized w.Sign = refl
sized w.Immediate = refl
sized w.First = refl
sized w.ReadsB = refl
sized w.LoadsB = refl
sized w.NotA = refl
sized w.NotC = refl
sized w.Left = refl
sized w.Right = refl
sized w.CarryIn = refl
sized w.Sum = refl
sized w.SumCarry = refl
sized w.LeftTurns = refl
sized w.RightTurns = refl
sized w.Overflow = refl
sized w.Ror = refl
sized w.Asr = refl
sized w.Lsr = refl
sized w.AXorB = refl
sized w.AOrB = refl
sized w.AAndB = refl
sized w.Out = refl
sized w.OutC = refl
sized w.OutV = refl
sized w.OutZ = refl
sized w.NotV = refl
sized w.NotN = refl
sized w.NotZ = refl
sized w.Hi = refl
sized w.Ls = refl
sized w.Lt = refl
sized w.Ge = refl
sized w.Gt = refl
sized w.Le = refl
sized w.Holds = refl
sized w.Stores = refl
sized w.Keeps = refl
sized w.FileWrite = refl
sized w.FileData = refl
sized w.MemoryWrite = refl
sized w.AfterFetched = refl
sized w.AfterReadA = refl
sized w.AfterGotA = refl
sized w.AfterReadB = refl
sized w.AfterGotB = refl
sized w.AfterExecute = refl
sized w.AfterStored = refl
sized w.NextPhase = refl
sized w.NextIr = refl
sized w.NextA = refl
sized w.NextB = refl
sized w.NextAt = refl
sized w.SetC = refl
sized w.NextC = refl
sized w.SetV = refl
sized w.NextV = refl
sized w.SetN = refl
sized w.NextN = refl
sized w.SetZ = refl
sized w.NextZ = refl

-- each value fits its wire
pub settled_fits : (kept : Kept) (inputs : List ℕ) → FitWidths register_widths kept.registers → AreWords kept.file → FitWidths input_widths inputs
    → (n : ℕ) (wire : Wire) → settled n kept inputs wire < 2 ^ width_of wire
unfolding settled
settled_fits kept inputs held file given zero wire = pow_pos (width_of wire)
settled_fits kept inputs held file given (suc n) wire = driven_fits (settled n kept inputs) (λ v. settled_fits kept inputs held file given n v) kept
    inputs held file given (width_of wire) (driver_of wire) (sized wire)

-- what the registers take
registers_fit : (on : Wire → ℕ) → ((wire : Wire) → on wire < 2 ^ width_of wire) → FitWidths register_widths (map (λ wire. taken on (driver_of wire)) registers)
unfolding driver_of
registers_fit on fit zero = fit w.NextPhase
registers_fit on fit (suc zero) = fit w.NextIr
registers_fit on fit (suc (suc zero)) = fit w.NextA
registers_fit on fit (suc (suc (suc zero))) = fit w.NextB
registers_fit on fit (suc (suc (suc (suc zero)))) = fit w.NextAt
registers_fit on fit (suc (suc (suc (suc (suc zero))))) = fit w.NextC
registers_fit on fit (suc (suc (suc (suc (suc (suc zero)))))) = fit w.NextV
registers_fit on fit (suc (suc (suc (suc (suc (suc (suc zero))))))) = fit w.NextN
registers_fit on fit (suc (suc (suc (suc (suc (suc (suc (suc zero)))))))) = fit w.NextZ
registers_fit on fit (suc (suc (suc (suc (suc (suc (suc (suc (suc i))))))))) = omega arith

file_fits : (t : Bool) (file : List ℕ) (r x : ℕ) → AreWords file → x < 2 ^ 32 → AreWords (if t then slice_set file r x else file)
file_fits true file r x h p = words_set file r x h p
file_fits false file r x h p = h

pub memory_fits : (t : Bool) (base : ℕ) (m : List ℕ) (a x : ℕ) → AreWords m → x < 2 ^ 32 → AreWords (if t then with_word base m a x else m)
memory_fits true base m a x h p = words_with base m a x h p
memory_fits false base m a x h p = h

answer_fits : (base : ℕ) (m : List ℕ) (a : ℕ) (o : Option ℕ) → AreWords m → word_at base m a ≡ o
    → FitWidths input_widths (unwrap_or o 0 ∷ bit_of (not (is_some o)) ∷ [])
answer_fits base m a (Some x) h e zero = word_found base m a x h e
answer_fits base m a None h e zero = omega arith
answer_fits base m a o h e (suc zero) = omega (arith, bit_small (not (is_some o)))
answer_fits base m a o h e (suc (suc i)) = omega arith

-- what the registers take at a reset
resets_fit : (i : ℕ) → slice_index (map (λ wire. reset_of (driver_of wire)) registers) i < 2 ^ slice_index register_widths i
unfolding driver_of
resets_fit zero = omega arith
resets_fit (suc zero) = omega arith
resets_fit (suc (suc zero)) = omega arith
resets_fit (suc (suc (suc zero))) = omega arith
resets_fit (suc (suc (suc (suc zero)))) = omega arith
resets_fit (suc (suc (suc (suc (suc zero))))) = omega arith
resets_fit (suc (suc (suc (suc (suc (suc zero)))))) = omega arith
resets_fit (suc (suc (suc (suc (suc (suc (suc zero))))))) = omega arith
resets_fit (suc (suc (suc (suc (suc (suc (suc (suc zero)))))))) = omega arith
resets_fit (suc (suc (suc (suc (suc (suc (suc (suc (suc i))))))))) = omega arith

module _ (b : Board) (fits : FitsBoard b) where
  fit : (wire : Wire) → on_board b wire < 2 ^ width_of wire
  fit = settled_fits b.kept (b.read ∷ b.outside ∷ []) fits.registers fits.file fits.inputs levels

  answered : FitWidths input_widths (unwrap_or (word_at b.base b.memory (on_board b w.Address)) 0
      ∷ bit_of (not (is_some (word_at b.base b.memory (on_board b w.Address)))) ∷ [])
  answered = answer_fits b.base b.memory (on_board b w.Address) (word_at b.base b.memory (on_board b w.Address)) fits.memory refl

  cycle_fits : FitsBoard (cycle b)
  unfolding cycle
  cycle_fits =
      record {
        registers = registers_fit (on_board b) fit;
        file = file_fits (on_board b w.FileWrite == 1) b.kept.file (on_board b w.Number) (on_board b w.FileData) fits.file (fit w.FileData);
        inputs = answered;
        memory = memory_fits (on_board b w.MemoryWrite == 1 && is_some (word_at b.base b.memory (on_board b w.Address))) b.base b.memory
            (on_board b w.Address) (on_board b w.Out) fits.memory (fit w.Out);
      }

  reset_fits : FitsBoard (reset_cycle b)
  unfolding reset_cycle
  reset_fits = record { registers = resets_fit; file = fits.file; inputs = answered; memory = fits.memory }

pub fitting : Fitting
fitting b fits = (fit b fits, cycle_fits b fits, reset_fits b fits)
