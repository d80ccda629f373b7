-- The value of each expression is the circuit's.
use Rattle.std.proofs.Common.{◌≡◌, ℕ, zero, suc, ◌+◌, ◌-◌, ◌*◌, ◌/◌, ◌%◌, ◌^◌, ◌<◌, ◌≤◌, ◌==◌, ◌&&◌, max, Bool, true, false, List, [], ◌∷◌, length, refl, sym}
use Rattle.std.proofs.Common.{ap, subst, ◌∙◌, ⊎_elim, arith, codes, pow_pos, pow_mono, div-one, mod-eq_of_lt, eq-eqb, nat_lt, if◌then◌else◌}
use Rattle.std.{proofs.lemmas.Bool.{cases_lt, ne_eqb, eqb-true, ltb-true, and_parts, false≢true}, specs.Prelude.{map, slice_index, bit_and, bit_or, bit_xor}}
use Rattle.std.{specs.List.list_all, specs.Int.from_bool as bit_of}
use Rattle.fm_circuit.{specs.declared.wire.Wire.Wire, specs.declared.circuit.Pin.Pin, specs.declared.circuit.Pin.TheVariants.{Whole, Bits, Constant}}
use Rattle.fm_circuit.{specs.declared.circuit.Driver.Driver, specs.Widths.width_of, specs.Circuit.{Kept, above, pin_of, pin_width, chosen, driven}}
use Rattle.fm_circuit.{specs.Sizes.{has_width, is_choice, is_sized, input_widths}, proofs.SizeLaws.{width_is, pin_fits}}
use Rattle.fm_circuit.specs.declared.circuit.Driver.TheVariants as d
use Rattle.fm_verilog.{specs.WireNames.name_of, specs.VerilogText.port_name}
use Rattle.verilog_meaning.{specs.Meaning.{Snapshot, size, value_of}, specs.ProcessorModule.{pin_expression, rows_expression, widened, expression_of}}

-- what the wires carry in a snapshot
abbrev pub carried : Snapshot → Wire → ℕ
carried now wire = now.value (name_of wire)

-- a wire that an assignment drives
abbrev pub is_assigned : Driver → Bool
is_assigned (d.Register number reset next) = false
is_assigned driver = true

bits_value : (x low n : ℕ) → x / 2 ^ low % n ≡ above x low % n
bits_value x zero n = ap (λ y. y % n) (div-one x)
bits_value x (suc low) n = refl

plain : (x y : ℕ) → 0 * x + y ≡ y
plain x y = omega arith

no_more : (x : ℕ) → x - 0 ≡ x
no_more x = omega arith

cut_sum : (x y c m : ℕ) → x + y + c < m → ((x + y) % m + c) % m ≡ x + y + c
cut_sum x y c m h = let less : x + y < m = omega arith in ap (λ t. (t + c) % m) (mod-eq_of_lt less) ∙ mod-eq_of_lt h

past_first : (x from : ℕ) → from < x → suc (x - (from + 1)) ≡ x - from
past_first x from h = omega arith

at_first : (x from : ℕ) → from ≤ x → x ≤ from → 0 ≡ x - from
at_first x from h g = omega arith

-- a row of a choice
picks : (x from v rest : ℕ) (vs : List ℕ) → from ≤ x → (from < x → rest ≡ slice_index vs (x - (from + 1))) →
    (if bit_of (x == from) == 0 then rest else v) ≡ slice_index (v ∷ vs) (x - from)
picks x from v rest vs low later =
    ⊎_elim
    (λ lt. ap (λ t. if bit_of t == 0 then rest else v) (ne_eqb x from (λ e. absurd (omega (arith, e, lt)))) ∙ later lt
    ∙ ap (λ i. slice_index (v ∷ vs) i) (past_first x from lt))
    (λ le. ap (λ t. if bit_of t == 0 then rest else v) (eq-eqb x from (omega (arith, low, le)))
    ∙ ap (λ i. slice_index (v ∷ vs) i) (at_first x from low le))
    (cases_lt from x)

module _ (width : List ℕ → ℕ) (now : Snapshot) (same : (wire : Wire) → width (name_of wire) ≡ width_of wire) where
  pin_size : (p : Pin) → size width (pin_expression p) ≡ pin_width p
  pin_size (Whole wire) = same wire
  pin_size (Bits wire high low) = refl
  pin_size (Constant own number) = refl

  pub pin_value : (n k : ℕ) (p : Pin) → has_width k p ≡ true → value_of width now n (pin_expression p) ≡ pin_of (carried now) p
  pin_value n k (Whole wire) h = refl
  pin_value n k (Bits wire high low) h = bits_value (now.value (name_of wire)) low (2 ^ (high + 1 - low))
  pin_value n k (Constant own number) h =
      let parts = and_parts (own == k) (nat_lt number (2 ^ k)) h in
      mod-eq_of_lt (subst (λ m. number < 2 ^ m) (sym (eqb-true own k parts.0)) (ltb-true number (2 ^ k) parts.1))

  widened_value : (n k more : ℕ) (p : Pin) → has_width k p ≡ true → value_of width now n (widened more p) ≡ pin_of (carried now) p
  widened_value n k more p h =
      let none : 0 % 2 ^ more ≡ 0 = mod-eq_of_lt (pow_pos more) in
      (λ j. none j * 2 ^ size width (pin_expression p) + pin_value (size width (pin_expression p)) k p h j)
      ∙ plain (2 ^ size width (pin_expression p)) (pin_of (carried now) p)

  rows_value : (n k bits from : ℕ) (by : Pin) (among : List Pin) → has_width bits by ≡ true → list_all (has_width k) among ≡ true →
      from ≤ pin_of (carried now) by → pin_of (carried now) by < from + length among → from + length among ≤ 2 ^ bits →
      value_of width now n (rows_expression by from among) ≡ slice_index (map (pin_of (carried now)) among) (pin_of (carried now) by - from)
  rows_value n k bits from by [] has all low high small = absurd (omega arith)
  rows_value n k bits from by (p ∷ among) has all low high small =
      let parts = and_parts (has_width k p) (list_all (has_width k) among) all in
      let less : from < 2 ^ bits = omega arith in
      let number : from % 2 ^ pin_width by ≡ from = mod-eq_of_lt (subst (λ m. from < 2 ^ m) (sym (width_is bits by has)) less) in
      (λ j. if bit_of (pin_value (max (size width (pin_expression by)) (pin_width by)) bits by has j == number j) == 0 then value_of width now n
      (rows_expression by (from + 1) among) else pin_value n k p parts.0 j)
      ∙ picks (pin_of (carried now) by) from (pin_of (carried now) p) (value_of width now n (rows_expression by (from + 1) among))
      (map (pin_of (carried now)) among) low
      (λ lt. rows_value n k bits (from + 1) by among has parts.1 (omega arith) (omega arith) (omega arith))

  module _ (fit : (wire : Wire) → carried now wire < 2 ^ width_of wire) where
    choice_value : (n k bits : ℕ) (by : Pin) (among : List Pin) → is_choice k bits by among ≡ true →
        value_of width now n (rows_expression by 0 among) ≡ chosen (carried now) by among
    choice_value n k bits by among h =
        let parts = and_parts (has_width bits by && (length among == 2 ^ bits)) (list_all (has_width k) among) h in
        let both = and_parts (has_width bits by) (length among == 2 ^ bits) parts.0 in
        let long : length among ≡ 2 ^ bits = eqb-true (length among) (2 ^ bits) both.1 in
        let small : pin_of (carried now) by < 2 ^ bits = pin_fits (carried now) fit bits by both.0 in
        rows_value n k bits 0 by among both.0 parts.1 (omega arith) (omega arith) (omega arith)
        ∙ ap (λ i. slice_index (map (pin_of (carried now)) among) i) (no_more (pin_of (carried now) by))

    module _ (kept : Kept) (inputs : List ℕ) (file : (x : ℕ) → x < 16 → now.word (codes "file") x ≡ slice_index kept.file x)
        (read : now.value (codes "bus_read") ≡ slice_index inputs 0) (outside : now.value (codes "bus_outside") ≡ slice_index inputs 1) where
      input_value : (k number : ℕ) → (slice_index input_widths number == k) ≡ true → 0 < k → now.value (port_name number) ≡ slice_index inputs number
      input_value k zero h more = read
      input_value k (suc zero) h more = outside
      input_value k (suc (suc number)) h more = let none : 0 ≡ k = eqb-true 0 k h in absurd (omega arith)

      driven_value : (own k : ℕ) (driver : Driver) → own ≡ k → 0 < k → is_assigned driver ≡ true → is_sized k driver ≡ true →
          driven kept inputs (carried now) driver < 2 ^ k →
          value_of width now (max own (size width (expression_of driver))) (expression_of driver) ≡ driven kept inputs (carried now) driver
      driven_value own k (d.Register number reset next) is more given h below = absurd (false≢true given)
      driven_value own k (d.Input number) is more given h below = input_value k number h more
      driven_value own k (d.FileRead number) is more given h below =
          let parts = and_parts (k == 32) (has_width 4 number) h in
          let read_at : value_of width now (size width (pin_expression number)) (pin_expression number) ≡ pin_of (carried now) number = pin_value
          (size width (pin_expression number)) 4 number parts.1 in
          ap (λ x. now.word (codes "file") x) read_at ∙ file (pin_of (carried now) number) (pin_fits (carried now) fit 4 number parts.1)
      driven_value own k (d.Not p) is more given h below =
          let own_size : size width (pin_expression p) ≡ pin_width p = pin_size p in
          let whole : pin_width p ≡ k = width_is k p h in
          let wide : max own (size width (pin_expression p)) ≡ pin_width p = omega arith in
          λ j. 2 ^ wide j - 1 - pin_value (max own (size width (pin_expression p))) k p h j
      driven_value own k (d.And p q) is more given h below =
          let parts = and_parts (has_width k p) (has_width k q) h in
          let n = max own (max (size width (pin_expression p)) (size width (pin_expression q))) in
          λ j. bit_and (pin_value n k p parts.0 j) (pin_value n k q parts.1 j)
      driven_value own k (d.Or p q) is more given h below =
          let parts = and_parts (has_width k p) (has_width k q) h in
          let n = max own (max (size width (pin_expression p)) (size width (pin_expression q))) in
          λ j. bit_or (pin_value n k p parts.0 j) (pin_value n k q parts.1 j)
      driven_value own k (d.Xor p q) is more given h below =
          let parts = and_parts (has_width k p) (has_width k q) h in
          let n = max own (max (size width (pin_expression p)) (size width (pin_expression q))) in
          λ j. bit_xor (pin_value n k p parts.0 j) (pin_value n k q parts.1 j)
      driven_value own k (d.Join p q) is more given h below =
          let parts = and_parts (has_width (pin_width p) p && has_width (pin_width q) q) (pin_width p + pin_width q == k) h in
          let both = and_parts (has_width (pin_width p) p) (has_width (pin_width q) q) parts.0 in
          λ j. pin_value (size width (pin_expression p)) (pin_width p) p both.0 j * 2 ^ pin_size q j + pin_value (size width (pin_expression q))
          (pin_width q) q both.1 j
      driven_value own k (d.Add p q carry) is more given h below =
          let parts = and_parts (has_width (pin_width p) p && has_width (pin_width p) q && has_width 1 carry) (pin_width p + 1 == k) h in
          let three = and_parts (has_width (pin_width p) p && has_width (pin_width p) q) (has_width 1 carry) parts.0 in
          let two = and_parts (has_width (pin_width p) p) (has_width (pin_width p) q) three.0 in
          let n : ℕ = max own (size width (expression_of (d.Add p q carry))) in
          let wide : k ≤ max own (size width (expression_of (d.Add p q carry))) = omega arith in
          let power : 2 ^ k ≤ 2 ^ max own (size width (expression_of (d.Add p q carry))) = pow_mono wide in
          let fits : pin_of (carried now) p + pin_of (carried now) q + pin_of (carried now) carry < 2 ^ max own
          (size width (expression_of (d.Add p q carry))) = omega (arith, below, power) in
          (λ j. ((widened_value n (pin_width p) 1 p two.0 j + widened_value n (pin_width p) 1 q two.1 j) % 2 ^ n + widened_value n 1 (pin_width p)
          carry three.1 j) % 2 ^ n)
          ∙ cut_sum (pin_of (carried now) p) (pin_of (carried now) q) (pin_of (carried now) carry)
          (2 ^ max own (size width (expression_of (d.Add p q carry)))) fits
      driven_value own k (d.Equal p q) is more given h below =
          let parts = and_parts ((k == 1) && has_width (pin_width p) p) (has_width (pin_width p) q) h in
          let one = and_parts (k == 1) (has_width (pin_width p) p) parts.0 in
          let n = max (size width (pin_expression p)) (size width (pin_expression q)) in
          λ j. bit_of (pin_value n (pin_width p) p one.1 j == pin_value n (pin_width p) q parts.1 j)
      driven_value own k (d.Two by among) is more given h below = choice_value (max own (size width (rows_expression by 0 among))) k 1 by among h
      driven_value own k (d.Four by among) is more given h below = choice_value (max own (size width (rows_expression by 0 among))) k 2 by among h
      driven_value own k (d.Eight by among) is more given h below = choice_value (max own (size width (rows_expression by 0 among))) k 3 by among h
      driven_value own k (d.Sixteen by among) is more given h below = choice_value (max own (size width (rows_expression by 0 among))) k 4 by among h

      -- what is assigned to a wire
      pub assigned_value : (own k : ℕ) (driver : Driver) → own ≡ k → 0 < k → is_assigned driver ≡ true → is_sized k driver ≡ true →
          driven kept inputs (carried now) driver < 2 ^ k →
          value_of width now (max own (size width (expression_of driver))) (expression_of driver) % 2 ^ own ≡ driven kept inputs (carried now) driver
      assigned_value own k driver is more given h below =
          ap (λ v. v % 2 ^ own) (driven_value own k driver is more given h below)
          ∙ mod-eq_of_lt (subst (λ m. driven kept inputs (carried now) driver < 2 ^ m) (sym is) below)
