-- The gates of a driver give the bits of its value.
use Rattle.std.proofs.Common.{◌≡◌, ◌≢◌, ℕ, zero, suc, ◌+◌, ◌-◌, ◌*◌, ◌%◌, ◌^◌, ◌<◌, ◌≤◌, ◌==◌, ◌&&◌, Bool, true, false, List, [], ◌∷◌, length, drop, refl, ap}
use Rattle.std.{proofs.Common.{sym, subst, ◌∙◌, arith, ⊎_elim, eq-eqb, if◌then◌else◌}, proofs.lemmas.Bool.{eqb-true, ltb-true, and_parts, cases_lt, cases_eq}}
use Rattle.std.{proofs.lemmas.Bool.ne_eqb, proofs.lemmas.Bool.Decides.nat_tests, proofs.lemmas.Nat.mod-pow-add, proofs.lemmas.Nat.Bits.{bit_at-lt, bit_at-zero}}
use Rattle.std.proofs.lemmas.Nat.Bits.{bit_at_and, bit_at_or, bit_at_xor, bit_at_cat_low, bit_at_cat_high, same_from_bits_below}
use Rattle.std.{proofs.lemmas.List.get_or-drop, proofs.Math.ListN.get_or-map, proofs.Math.Nat.mod-eq_of_lt, specs.Prelude.{map, min, max, nat_lt, nat_le}}
use Rattle.std.{specs.Prelude.slice_index, specs.List.list_all, specs.Int.{from_bool as bit_of, bit_at}}
use Rattle.fm_circuit.{specs.declared.wire.Wire.Wire, specs.declared.circuit.Pin.Pin, specs.declared.circuit.Pin.TheVariants.{Whole, Bits, Constant}}
use Rattle.fm_circuit.{specs.declared.circuit.Driver.Driver, specs.Widths.width_of, specs.Circuit.{Kept, pin_of, pin_width, above, chosen, driven}}
use Rattle.fm_circuit.{specs.Sizes.{has_width, is_choice, is_sized, register_widths, input_widths}, proofs.SizeLaws.{pin_fits, width_is}}
use Rattle.fm_circuit.specs.declared.circuit.Driver.TheVariants as d
use Rattle.fm_gates.specs.Gates.{Gate, Off, CarryBit, FileBit, Differ, Signals, gate_value, constant_gate, pin_gate, carry_gate, equal_gate, first_gate}
use Rattle.fm_gates.{specs.Gates.{choice_gate, choice_of_pins, file_numbers, driver_gate}, proofs.BitLaws.{bit_of_low, bit_of_high, bit_of_inverse, carry_into}}
use Rattle.fm_gates.proofs.BitLaws.{carry_next, sum_bit, sum_top}

pick_path : (a a' b b' c c' : ℕ) → a ≡ a' → b ≡ b' → c ≡ c' → slice_index (a ∷ c ∷ []) ((a + b) % 2) ≡ slice_index (a' ∷ c' ∷ []) ((a' + b') % 2)
pick_path a a' b b' c c' e f g = λ j. slice_index (e j ∷ g j ∷ []) ((e j + f j) % 2)

sum_path : (a a' b b' c c' : ℕ) → a ≡ a' → b ≡ b' → c ≡ c' → ((a + b) % 2 + c) % 2 ≡ ((a' + b') % 2 + c') % 2
sum_path a a' b b' c c' e f g = λ j. ((e j + f j) % 2 + g j) % 2

both_path : (a a' b b' : ℕ) → a ≡ a' → b ≡ b' → min a b ≡ min a' b'
both_path a a' b b' e f = λ j. min (e j) (f j)

either_path : (a a' b b' : ℕ) → a ≡ a' → b ≡ b' → max a b ≡ max a' b'
either_path a a' b b' e f = λ j. max (e j) (f j)

differ_path : (a a' b b' : ℕ) → a ≡ a' → b ≡ b' → (a + b) % 2 ≡ (a' + b') % 2
differ_path a a' b b' e f = λ j. (e j + f j) % 2

-- equality in so many bits
pub agrees : ℕ → ℕ → ℕ → Bool
agrees x y zero = true
agrees x y (suc i) = agrees x y i && (bit_at x i == bit_at y i)

one_more : (t : Bool) (a b : ℕ) → a < 2 → b < 2 → min (bit_of t) (1 - (a + b) % 2) ≡ bit_of (t && (a == b))
one_more true zero zero h g = refl
one_more true zero (suc zero) h g = refl
one_more true (suc zero) zero h g = refl
one_more true (suc zero) (suc zero) h g = refl
one_more false zero zero h g = refl
one_more false zero (suc zero) h g = refl
one_more false (suc zero) zero h g = refl
one_more false (suc zero) (suc zero) h g = refl
one_more t (suc (suc a)) b h g = absurd (omega arith)
one_more t a (suc (suc b)) h g = absurd (omega arith)

agrees_bits : (x y n : ℕ) → agrees x y n ≡ true → (j : ℕ) → j < n → bit_at x j ≡ bit_at y j
unfolding agrees
agrees_bits x y zero h j lt = absurd (omega arith)
agrees_bits x y (suc n) h j lt =
    let parts = and_parts (agrees x y n) (bit_at x n == bit_at y n) h in
    ⊎_elim (λ below. agrees_bits x y n parts.0 j below) (λ past. last (omega arith) (eqb-true (bit_at x n) (bit_at y n) parts.1)) (cases_lt j n)
  where
    last : n ≡ j → bit_at x n ≡ bit_at y n → bit_at x j ≡ bit_at y j
    last e same = subst (λ k. bit_at x k ≡ bit_at y k) e same

agrees_same : (x n : ℕ) → agrees x x n ≡ true
unfolding agrees
agrees_same x zero = refl
agrees_same x (suc n) = rw (agrees_same x n) (eq-eqb (bit_at x n) (bit_at x n) refl)

pub agrees_is : (x y n : ℕ) → x < 2 ^ n → y < 2 ^ n → agrees x y n ≡ (x == y)
agrees_is x y n p q = ⊎_elim (λ e. same e) (λ ne. other ne (agrees x y n) refl) (cases_eq x y)
  where
    same : x ≡ y → agrees x y n ≡ (x == y)
    same e = subst (λ z. agrees x z n ≡ true) e (agrees_same x n) ∙ sym (eq-eqb x y e)

    other : x ≢ y → (t : Bool) → agrees x y n ≡ t → agrees x y n ≡ (x == y)
    other ne true h = absurd (ne (same_from_bits_below n x y p q (agrees_bits x y n h)))
    other ne false h = h ∙ sym (ne_eqb x y ne)

not_below : (i n : ℕ) → nat_lt i n ≡ false → n ≤ i
not_below i n h = grind (arith, nat_tests)

-- the carries of a wire that is a sum
abbrev pub carried_value : (Wire → ℕ) → Driver → ℕ → ℕ
carried_value on (d.Add p q carry) i = carry_into (pin_of on p) (pin_of on q) (pin_of on carry) i
carried_value on driver i = 0

-- wires whose values fit, and whose bits are known
module _ (kept : Kept) (inputs : List ℕ) (on : Wire → ℕ) (s : Signals) (fit : (wire : Wire) → on wire < 2 ^ width_of wire)
    (known : (wire : Wire) (i : ℕ) → i < width_of wire → s.wire wire i ≡ bit_at (on wire) i) where
  abbrev value : Gate → ℕ
  value g = gate_value s g

  constant_bit : (n : ℕ) → n < 2 → value (constant_gate n) ≡ n
  constant_bit zero h = refl
  constant_bit (suc zero) h = refl
  constant_bit (suc (suc n)) h = absurd (omega arith)

  high_part : (x low i : ℕ) → bit_at (above x low) i ≡ bit_at x (low + i)
  high_part x zero i = let e : i ≡ 0 + i = omega arith in ap (λ k. bit_at x k) e
  high_part x (suc low) i = bit_of_high x (suc low) i

  pin_bit : (width : ℕ) (p : Pin) (i : ℕ) → has_width width p ≡ true → i < width → value (pin_gate p i) ≡ bit_at (pin_of on p) i
  pin_bit width (Whole wire) i h lt = known wire i (subst (λ n. i < n) (sym (eqb-true (width_of wire) width h)) lt)
  pin_bit width (Bits wire high low) i h lt =
      let parts = and_parts (nat_le low high && nat_lt high (width_of wire)) (high + 1 - low == width) h in
      let inside = ltb-true high (width_of wire) (and_parts (nat_le low high) (nat_lt high (width_of wire)) parts.0).1 in
      let size : high + 1 - low ≡ width = eqb-true (high + 1 - low) width parts.1 in
      known wire (low + i) (omega (arith, inside, size, lt)) ∙ sym (high_part (on wire) low i)
      ∙ sym (bit_of_low (above (on wire) low) (high + 1 - low) i (omega (arith, size, lt)))
  pin_bit width (Constant own v) i h lt = constant_bit (bit_at v i) (bit_at-lt v i)

  first_value : (gates : List Gate) (n : ℕ) → value (first_gate gates) ≡ slice_index (map value gates) (n % 2 ^ 0)
  first_value [] n = refl
  first_value (g ∷ gates) n = let e : 0 ≡ n % 2 ^ 0 = omega arith in ap (λ k. slice_index (map value (g ∷ gates)) k) e

  later_value : (gates : List Gate) (j m : ℕ) → slice_index (map value (drop j gates)) m ≡ slice_index (map value gates) (j + m)
  later_value gates j m = get_or-map value (drop j gates) m Off ∙ ap value (get_or-drop j gates m Off) ∙ sym (get_or-map value gates (j + m) Off)

  -- one of several gates
  choice_value : (k : ℕ) (by : Pin) (gates : List Gate) (width : ℕ) → has_width width by ≡ true → k ≤ width
      → value (choice_gate k by gates) ≡ slice_index (map value gates) (pin_of on by % 2 ^ k)
  unfolding choice_gate
  choice_value zero by gates width h le = first_value gates (pin_of on by)
  choice_value (suc k) by gates width h le =
      halves (bit_at (pin_of on by) k) (bit_at-lt (pin_of on by) k) refl (pin_bit width by k h (omega arith))
      (choice_value k by gates width h (omega arith))
      (choice_value k by (drop (2 ^ k) gates) width h (omega arith) ∙ later_value gates (2 ^ k) (pin_of on by % 2 ^ k))
    where
      up : pin_of on by % 2 ^ suc k ≡ bit_at (pin_of on by) k * 2 ^ k + pin_of on by % 2 ^ k
      up = let e : suc k ≡ 1 + k = omega arith in ap (λ n. pin_of on by % 2 ^ n) e ∙ mod-pow-add (pin_of on by) 1 k

      halves : (b : ℕ) → b < 2 → bit_at (pin_of on by) k ≡ b → value (pin_gate by k) ≡ bit_at (pin_of on by) k
          → value (choice_gate k by gates) ≡ slice_index (map value gates) (pin_of on by % 2 ^ k)
          → value (choice_gate k by (drop (2 ^ k) gates)) ≡ slice_index (map value gates) (2 ^ k + pin_of on by % 2 ^ k)
          → slice_index (value (choice_gate k by gates) ∷ value (choice_gate k by (drop (2 ^ k) gates)) ∷ []) (value (pin_gate by k))
          ≡ slice_index (map value gates) (pin_of on by % 2 ^ suc k)
      halves zero lt is bit low high =
          let place : pin_of on by % 2 ^ k ≡ pin_of on by % 2 ^ suc k = omega (arith, up, is, ap (λ n. n * 2 ^ k) is) in
          ap (λ n. slice_index (value (choice_gate k by gates) ∷ value (choice_gate k by (drop (2 ^ k) gates)) ∷ []) n) (bit ∙ is) ∙ low
          ∙ ap (λ n. slice_index (map value gates) n) place
      halves (suc zero) lt is bit low high =
          let place : 2 ^ k + pin_of on by % 2 ^ k ≡ pin_of on by % 2 ^ suc k = omega (arith, up, is, ap (λ n. n * 2 ^ k) is) in
          ap (λ n. slice_index (value (choice_gate k by gates) ∷ value (choice_gate k by (drop (2 ^ k) gates)) ∷ []) n) (bit ∙ is) ∙ high
          ∙ ap (λ n. slice_index (map value gates) n) place
      halves (suc (suc b)) lt is bit low high = absurd (omega arith)

  pins_bit : (width : ℕ) (among : List Pin) (n i : ℕ) → list_all (has_width width) among ≡ true → i < width
      → slice_index (map value (map (λ p. pin_gate p i) among)) n ≡ bit_at (slice_index (map (pin_of on) among) n) i
  pins_bit width [] n i h lt = sym (bit_at-zero i)
  pins_bit width (p ∷ among) zero i h lt = pin_bit width p i (and_parts (has_width width p) (list_all (has_width width) among) h).0 lt
  pins_bit width (p ∷ among) (suc n) i h lt = pins_bit width among n i (and_parts (has_width width p) (list_all (has_width width) among) h).1 lt

  choice_bit : (width k : ℕ) (by : Pin) (among : List Pin) (i : ℕ) → is_choice width k by among ≡ true → i < width
      → value (choice_of_pins k by among i) ≡ bit_at (chosen on by among) i
  choice_bit width k by among i h lt =
      let parts = and_parts (has_width k by && (length among == 2 ^ k)) (list_all (has_width width) among) h in
      let number = (and_parts (has_width k by) (length among == 2 ^ k) parts.0).0 in
      let whole : pin_of on by % 2 ^ k ≡ pin_of on by = mod-eq_of_lt (pin_fits on fit k by number) in
      choice_value k by (map (λ p. pin_gate p i) among) k number (omega arith) ∙ ap (λ n. slice_index (map value (map (λ p. pin_gate p i) among)) n)
      whole ∙ pins_bit width among (pin_of on by) i parts.1 lt

  -- the carry
  zero_carry : (x y c : ℕ) → c < 2 → bit_at c 0 ≡ carry_into x y c 0
  zero_carry x y c h = omega arith

  module _ (p q carry : Pin) (width : ℕ) (h : is_sized width (d.Add p q carry) ≡ true) where
    sum_parts : (has_width (pin_width p) p && has_width (pin_width p) q ≡ true) × (has_width 1 carry ≡ true)
    sum_parts = and_parts (has_width (pin_width p) p && has_width (pin_width p) q) (has_width 1 carry)
        (and_parts (has_width (pin_width p) p && has_width (pin_width p) q && has_width 1 carry) (pin_width p + 1 == width) h).0

    sum_pins : (has_width (pin_width p) p ≡ true) × (has_width (pin_width p) q ≡ true)
    sum_pins = and_parts (has_width (pin_width p) p) (has_width (pin_width p) q) sum_parts.0

    sum_size : pin_width p + 1 ≡ width
    sum_size = eqb-true (pin_width p + 1) width
        (and_parts (has_width (pin_width p) p && has_width (pin_width p) q && has_width 1 carry) (pin_width p + 1 == width) h).1

    first_carry : value (pin_gate carry 0) ≡ carry_into (pin_of on p) (pin_of on q) (pin_of on carry) 0
    first_carry = pin_bit 1 carry 0 sum_parts.1 (omega arith) ∙ zero_carry (pin_of on p) (pin_of on q) (pin_of on carry) (pin_fits on fit 1 carry sum_parts.1)

    later_carry : (x i : ℕ) → suc i < width → x ≡ carry_into (pin_of on p) (pin_of on q) (pin_of on carry) i
        → slice_index (value (pin_gate p i) ∷ x ∷ []) ((value (pin_gate p i) + value (pin_gate q i)) % 2)
        ≡ carry_into (pin_of on p) (pin_of on q) (pin_of on carry) (suc i)
    later_carry x i lt is =
        pick_path _ _ _ _ _ _ (pin_bit (pin_width p) p i sum_pins.0 (omega (arith, sum_size)))
        (pin_bit (pin_width p) q i sum_pins.1 (omega (arith, sum_size))) is ∙ sym
        (carry_next (pin_of on p) (pin_of on q) (pin_of on carry) i (pin_fits on fit 1 carry sum_parts.1))

  -- carries that are what their gates give
  pub carries_are : (wire : Wire) (width : ℕ) (it : Driver) → is_sized width it ≡ true
      → ((i : ℕ) → i < width → s.carry wire i ≡ value (carry_gate wire it i)) → (i : ℕ) → i < width → s.carry wire i ≡ carried_value on it i
  carries_are wire width (d.Add p q carry) h nets zero lt = nets 0 lt ∙ first_carry p q carry width h
  carries_are wire width (d.Add p q carry) h nets (suc i) lt =
      nets (suc i) lt ∙ later_carry p q carry width h (s.carry wire i) i lt (carries_are wire width (d.Add p q carry) h nets i (omega arith))
  carries_are wire width (d.Register number reset next) h nets i lt = nets i lt
  carries_are wire width (d.Input number) h nets i lt = nets i lt
  carries_are wire width (d.FileRead number) h nets i lt = nets i lt
  carries_are wire width (d.Not p) h nets i lt = nets i lt
  carries_are wire width (d.And p q) h nets i lt = nets i lt
  carries_are wire width (d.Or p q) h nets i lt = nets i lt
  carries_are wire width (d.Xor p q) h nets i lt = nets i lt
  carries_are wire width (d.Join p q) h nets i lt = nets i lt
  carries_are wire width (d.Equal p q) h nets i lt = nets i lt
  carries_are wire width (d.Two by among) h nets i lt = nets i lt
  carries_are wire width (d.Four by among) h nets i lt = nets i lt
  carries_are wire width (d.Eight by among) h nets i lt = nets i lt
  carries_are wire width (d.Sixteen by among) h nets i lt = nets i lt

  -- and the other way round
  pub carries_hold : (wire : Wire) (width : ℕ) (it : Driver) → is_sized width it ≡ true → ((i : ℕ) → s.carry wire i ≡ carried_value on it i) → (i : ℕ)
      → i < width → s.carry wire i ≡ value (carry_gate wire it i)
  carries_hold wire width (d.Add p q carry) h is zero lt = is 0 ∙ sym (first_carry p q carry width h)
  carries_hold wire width (d.Add p q carry) h is (suc i) lt = is (suc i) ∙ sym (later_carry p q carry width h (s.carry wire i) i lt (is i))
  carries_hold wire width (d.Register number reset next) h is i lt = is i
  carries_hold wire width (d.Input number) h is i lt = is i
  carries_hold wire width (d.FileRead number) h is i lt = is i
  carries_hold wire width (d.Not p) h is i lt = is i
  carries_hold wire width (d.And p q) h is i lt = is i
  carries_hold wire width (d.Or p q) h is i lt = is i
  carries_hold wire width (d.Xor p q) h is i lt = is i
  carries_hold wire width (d.Join p q) h is i lt = is i
  carries_hold wire width (d.Equal p q) h is i lt = is i
  carries_hold wire width (d.Two by among) h is i lt = is i
  carries_hold wire width (d.Four by among) h is i lt = is i
  carries_hold wire width (d.Eight by among) h is i lt = is i
  carries_hold wire width (d.Sixteen by among) h is i lt = is i

  pub equal_value : (p q : Pin) (n i : ℕ) → has_width n p ≡ true → has_width n q ≡ true → i ≤ n
      → value (equal_gate p q i) ≡ bit_of (agrees (pin_of on p) (pin_of on q) i)
  unfolding equal_gate agrees
  equal_value p q n zero hp hq le = refl
  equal_value p q n (suc i) hp hq le =
      let before = equal_value p q n i hp hq (omega arith) in
      let a = pin_bit n p i hp (omega arith) in
      let b = pin_bit n q i hq (omega arith) in
      both_path _ _ _ _ before (ap (λ k. 1 - k) (differ_path _ _ _ _ a b)) ∙ one_more (agrees (pin_of on p) (pin_of on q) i) (bit_at (pin_of on p) i)
      (bit_at (pin_of on q) i) (bit_at-lt (pin_of on p) i) (bit_at-lt (pin_of on q) i)

  -- what is kept and what comes in, as bits
  module _ (held : (k i : ℕ) → i < slice_index register_widths k → s.register k i ≡ bit_at (slice_index kept.registers k) i)
      (given : (k i : ℕ) → i < slice_index input_widths k → s.input k i ≡ bit_at (slice_index inputs k) i)
      (filed : (r i : ℕ) → r < 16 → i < 32 → s.file r i ≡ bit_at (slice_index kept.file r) i) where
    file_bit : (n i : ℕ) → n < 16 → i < 32 → slice_index (map value (map (λ r. FileBit r i) file_numbers)) n ≡ bit_at (slice_index kept.file n) i
    file_bit zero i h lt = filed 0 i h lt
    file_bit (suc zero) i h lt = filed 1 i h lt
    file_bit (suc (suc zero)) i h lt = filed 2 i h lt
    file_bit (suc (suc (suc zero))) i h lt = filed 3 i h lt
    file_bit (suc (suc (suc (suc zero)))) i h lt = filed 4 i h lt
    file_bit (suc (suc (suc (suc (suc zero))))) i h lt = filed 5 i h lt
    file_bit (suc (suc (suc (suc (suc (suc zero)))))) i h lt = filed 6 i h lt
    file_bit (suc (suc (suc (suc (suc (suc (suc zero))))))) i h lt = filed 7 i h lt
    file_bit (suc (suc (suc (suc (suc (suc (suc (suc zero)))))))) i h lt = filed 8 i h lt
    file_bit (suc (suc (suc (suc (suc (suc (suc (suc (suc zero))))))))) i h lt = filed 9 i h lt
    file_bit (suc (suc (suc (suc (suc (suc (suc (suc (suc (suc zero)))))))))) i h lt = filed 10 i h lt
    file_bit (suc (suc (suc (suc (suc (suc (suc (suc (suc (suc (suc zero))))))))))) i h lt = filed 11 i h lt
    file_bit (suc (suc (suc (suc (suc (suc (suc (suc (suc (suc (suc (suc zero)))))))))))) i h lt = filed 12 i h lt
    file_bit (suc (suc (suc (suc (suc (suc (suc (suc (suc (suc (suc (suc (suc zero))))))))))))) i h lt = filed 13 i h lt
    file_bit (suc (suc (suc (suc (suc (suc (suc (suc (suc (suc (suc (suc (suc (suc zero)))))))))))))) i h lt = filed 14 i h lt
    file_bit (suc (suc (suc (suc (suc (suc (suc (suc (suc (suc (suc (suc (suc (suc (suc zero))))))))))))))) i h lt = filed 15 i h lt
    file_bit (suc (suc (suc (suc (suc (suc (suc (suc (suc (suc (suc (suc (suc (suc (suc (suc n)))))))))))))))) i h lt = absurd (omega arith)

    -- each bit of what a driver gives
    pub driver_bit : (wire : Wire) (width : ℕ) (it : Driver) (i : ℕ) → is_sized width it ≡ true
        → ((j : ℕ) → j < width → s.carry wire j ≡ carried_value on it j) → i < width → value (driver_gate wire it i) ≡ bit_at (driven kept inputs on it) i
    driver_bit wire width (d.Register number reset next) i h carried lt =
        let parts = and_parts ((slice_index register_widths number == width) && nat_lt reset (2 ^ width)) (has_width width next) h in
        let same = eqb-true (slice_index register_widths number) width
        (and_parts (slice_index register_widths number == width) (nat_lt reset (2 ^ width)) parts.0).0 in
        held number i (subst (λ n. i < n) (sym same) lt)
    driver_bit wire width (d.Input number) i h carried lt = given number i (subst (λ n. i < n) (sym (eqb-true (slice_index input_widths number) width h)) lt)
    driver_bit wire width (d.FileRead number) i h carried lt =
        let parts = and_parts (width == 32) (has_width 4 number) h in
        let four = parts.1 in
        let size : width ≡ 32 = eqb-true width 32 parts.0 in
        let below = pin_fits on fit 4 number four in
        let whole : pin_of on number % 2 ^ 4 ≡ pin_of on number = mod-eq_of_lt below in
        choice_value 4 number (map (λ r. FileBit r i) file_numbers) 4 four (omega arith)
        ∙ ap (λ n. slice_index (map value (map (λ r. FileBit r i) file_numbers)) n) whole
        ∙ file_bit (pin_of on number) i below (subst (λ n. i < n) size lt)
    driver_bit wire width (d.Not p) i h carried lt =
        let same = width_is width p h in
        ap (λ k. 1 - k) (pin_bit width p i h lt) ∙ sym (bit_of_inverse width i (pin_of on p) (pin_fits on fit width p h) lt)
        ∙ ap (λ n. bit_at (2 ^ n - 1 - pin_of on p) i) (sym same)
    driver_bit wire width (d.And p q) i h carried lt =
        let parts = and_parts (has_width width p) (has_width width q) h in
        both_path _ _ _ _ (pin_bit width p i parts.0 lt) (pin_bit width q i parts.1 lt) ∙ sym (bit_at_and (pin_of on p) (pin_of on q) i)
    driver_bit wire width (d.Or p q) i h carried lt =
        let parts = and_parts (has_width width p) (has_width width q) h in
        either_path _ _ _ _ (pin_bit width p i parts.0 lt) (pin_bit width q i parts.1 lt) ∙ sym (bit_at_or (pin_of on p) (pin_of on q) i)
    driver_bit wire width (d.Xor p q) i h carried lt =
        let parts = and_parts (has_width width p) (has_width width q) h in
        differ_path _ _ _ _ (pin_bit width p i parts.0 lt) (pin_bit width q i parts.1 lt) ∙ sym (bit_at_xor (pin_of on p) (pin_of on q) i)
    driver_bit wire width (d.Join p q) i h carried lt = by_test (nat_lt i (pin_width q)) refl
      where
        parts : (has_width (pin_width p) p && has_width (pin_width q) q ≡ true) × ((pin_width p + pin_width q == width) ≡ true)
        parts = and_parts (has_width (pin_width p) p && has_width (pin_width q) q) (pin_width p + pin_width q == width) h

        two : (has_width (pin_width p) p ≡ true) × (has_width (pin_width q) q ≡ true)
        two = and_parts (has_width (pin_width p) p) (has_width (pin_width q) q) parts.0

        by_test : (t : Bool) → nat_lt i (pin_width q) ≡ t → value (if t then pin_gate q i else pin_gate p (i - pin_width q))
            ≡ bit_at (pin_of on p * 2 ^ pin_width q + pin_of on q) i
        by_test true e =
            let below = ltb-true i (pin_width q) e in
            pin_bit (pin_width q) q i two.1 below ∙ sym (bit_at_cat_low (pin_of on p) (pin_width q) (pin_of on q) i below)
        by_test false e =
            let past = not_below i (pin_width q) e in
            let size : pin_width p + pin_width q ≡ width = eqb-true (pin_width p + pin_width q) width parts.1 in
            pin_bit (pin_width p) p (i - pin_width q) two.0 (omega arith) ∙ sym
            (bit_at_cat_high (pin_of on p) (pin_width q) (pin_of on q) i (pin_fits on fit (pin_width q) q two.1) past)
    driver_bit wire width (d.Add p q carry) i h carried lt = by_test (nat_lt i (pin_width p)) refl
      where
        by_test : (t : Bool) → nat_lt i (pin_width p) ≡ t → value
            (if t then Differ (Differ (pin_gate p i) (pin_gate q i)) (CarryBit wire i) else CarryBit wire i)
            ≡ bit_at (pin_of on p + pin_of on q + pin_of on carry) i
        by_test true e =
            let below = ltb-true i (pin_width p) e in
            let both = sum_pins p q carry width h in
            sum_path _ _ _ _ _ _ (pin_bit (pin_width p) p i both.0 below) (pin_bit (pin_width p) q i both.1 below) (carried i lt)
            ∙ sym (sum_bit (pin_of on p) (pin_of on q) (pin_of on carry) i)
        by_test false e =
            let past = not_below i (pin_width p) e in
            let both = sum_pins p q carry width h in
            let top : pin_width p ≡ i = omega (arith, sum_size p q carry width h) in
            carried i lt ∙ subst (λ k. carry_into (pin_of on p) (pin_of on q) (pin_of on carry) k
            ≡ bit_at (pin_of on p + pin_of on q + pin_of on carry) k) top
            (sym (sum_top (pin_of on p) (pin_of on q) (pin_of on carry) (pin_width p) (pin_fits on fit (pin_width p) p both.0)
            (pin_fits on fit (pin_width p) q both.1) (pin_fits on fit 1 carry (sum_parts p q carry width h).1)))
    driver_bit wire width (d.Equal p q) i h carried lt =
        let first = and_parts ((width == 1) && has_width (pin_width p) p) (has_width (pin_width p) q) h in
        let second = and_parts (width == 1) (has_width (pin_width p) p) first.0 in
        let one : width ≡ 1 = eqb-true width 1 second.0 in
        let zero_at : 0 ≡ i = omega arith in
        equal_value p q (pin_width p) (pin_width p) second.1 first.1 (omega arith)
        ∙ ap bit_of (agrees_is (pin_of on p) (pin_of on q) (pin_width p) (pin_fits on fit (pin_width p) p second.1)
        (pin_fits on fit (pin_width p) q first.1)) ∙ sym (bit_of_bit (pin_of on p == pin_of on q))
        ∙ ap (λ k. bit_at (bit_of (pin_of on p == pin_of on q)) k) zero_at
      where
        bit_of_bit : (t : Bool) → bit_at (bit_of t) 0 ≡ bit_of t
        bit_of_bit true = refl
        bit_of_bit false = refl
    driver_bit wire width (d.Two by among) i h carried lt = choice_bit width 1 by among i h lt
    driver_bit wire width (d.Four by among) i h carried lt = choice_bit width 2 by among i h lt
    driver_bit wire width (d.Eight by among) i h carried lt = choice_bit width 3 by among i h lt
    driver_bit wire width (d.Sixteen by among) i h carried lt = choice_bit width 4 by among i h lt
