-- What is taken at an edge of the clock, and what is written.
use Rattle.std.proofs.Common.{◌≡◌, ℕ, zero, suc, ◌%◌, ◌^◌, ◌<◌, ◌==◌, ◌&&◌, max, Bool, true, false, not, List, refl, sym, ap, subst, ◌∙◌, arith, codes}
use Rattle.std.{proofs.Common.{mod-eq_of_lt, nat_lt, if◌then◌else◌}, proofs.lemmas.Bool.{ltb-true, and_parts}, specs.Prelude.slice_index}
use Rattle.std.specs.Int.{from_bool as bit_of}
use Rattle.fm_circuit.{specs.declared.wire.Wire.Wire, specs.declared.circuit.Pin.Pin, specs.Widths.width_of, specs.Circuit.pin_of, specs.Sizes.register_widths}
use Rattle.fm_circuit.{specs.Sizes.{has_width, is_sized}, proofs.SizeLaws.pin_fits}
use Rattle.fm_circuit.specs.declared.wire.Wire.TheVariants as w
use Rattle.fm_circuit.specs.declared.circuit.Driver.TheVariants as d
use Rattle.fm_verilog.specs.WireNames.{name_of}
use Rattle.verilog_meaning.specs.Syntax as v
use Rattle.verilog_meaning.{specs.Meaning.{Snapshot, size, assigned, width_in}, specs.ProcessorModule.{pin_expression, no_reset, processor}}
use Rattle.verilog_meaning.{proofs.WidthLaws.{width_is, file_width, write_width}, proofs.ValueLaws.{carried, pin_value}}

small_bit : (t : Bool) → bit_of t < 2 ^ 1
small_bit true = omega arith
small_bit false = omega arith

-- a write that a reset keeps back
write_is : (reset : Bool) (x : ℕ) → x < 2 ^ 1 → bit_of (not (x == 0) && not (bit_of (bit_of reset == 0) == 0)) ≡ bit_of (not reset && (x == 1))
write_is true zero lt = refl
write_is true (suc zero) lt = refl
write_is false zero lt = refl
write_is false (suc zero) lt = refl
write_is reset (suc (suc x)) lt = absurd (omega arith)

is_bit : (t : Bool) → not (bit_of t == 0) ≡ t
is_bit true = refl
is_bit false = refl

chosen_fits : (t : Bool) (r x m : ℕ) → r < m → x < m → (if bit_of t == 0 then x else r % m) % m ≡ (if t then r else x)
chosen_fits true r x m lr lx = ap (λ y. y % m) (mod-eq_of_lt lr) ∙ mod-eq_of_lt lr
chosen_fits false r x m lr lx = mod-eq_of_lt lx

module _ (now : Snapshot) (reset : Bool) (low : now.value (codes "reset") ≡ bit_of reset)
    (fit : (wire : Wire) → carried now wire < 2 ^ width_of wire) where
  -- a register
  pub edge_value : (wire : Wire) (number set : ℕ) (pin : Pin) → is_sized (width_of wire) (d.Register number set pin) ≡ true →
      assigned (width_in processor) now (name_of wire) (v.Choice (v.Named (codes "reset")) (v.Number (width_of wire) set) (pin_expression pin))
      ≡ (if reset then set else pin_of (carried now) pin)
  edge_value wire number set pin h =
      let parts = and_parts ((slice_index register_widths number == width_of wire) && nat_lt set (2 ^ width_of wire))
      (has_width (width_of wire) pin) h in
      let small = ltb-true set (2 ^ width_of wire)
      (and_parts (slice_index register_widths number == width_of wire) (nat_lt set (2 ^ width_of wire)) parts.0).1 in
      let n = max (width_in processor (name_of wire)) (max (width_of wire) (size (width_in processor) (pin_expression pin))) in
      (λ j. (if low j == 0 then pin_value (width_in processor) now width_is n (width_of wire) pin parts.1 j else set % 2 ^ width_of wire)
      % 2 ^ width_is wire j)
      ∙ chosen_fits reset set (pin_of (carried now) pin) (2 ^ width_of wire) small (pin_fits (carried now) fit (width_of wire) pin parts.1)

  writes : (wire : Wire) → width_of wire ≡ 1 →
      bit_of (not (carried now wire == 0) && not (bit_of (now.value (codes "reset") == 0) == 0)) ≡ bit_of (not reset && (carried now wire == 1))
  writes wire one =
      (λ j. bit_of (not (carried now wire == 0) && not (bit_of (low j == 0) == 0)))
      ∙ write_is reset (carried now wire) (subst (λ n. carried now wire < 2 ^ n) one (fit wire))

  -- whether memory is written
  pub write_value :
      assigned (width_in processor) now (codes "bus_write") (v.Both (v.Named (codes "memory_write")) no_reset)
      ≡ bit_of (not reset && (carried now w.MemoryWrite == 1))
  write_value = (λ j. writes w.MemoryWrite refl j % 2 ^ write_width j) ∙ mod-eq_of_lt (small_bit (not reset && (carried now w.MemoryWrite == 1)))

  -- a word of the register file
  pub store_value : (r : ℕ) →
      (if not (bit_of (not (carried now w.FileWrite == 0) && not (bit_of (now.value (codes "reset") == 0) == 0)) == 0)
      && (carried now w.Number == r) then assigned (width_in processor) now (codes "file") (v.Named (codes "file_data")) else now.word (codes "file") r)
      ≡ (if (not reset && (carried now w.FileWrite == 1)) && (carried now w.Number == r) then carried now w.FileData else now.word (codes "file") r)
  store_value r =
      λ j. if (ap (λ n. not (n == 0)) (writes w.FileWrite refl) ∙ is_bit (not reset && (carried now w.FileWrite == 1))) j
      && (carried now w.Number == r) then datum j else now.word (codes "file") r
    where
      datum : carried now w.FileData % 2 ^ width_in processor (codes "file") ≡ carried now w.FileData
      datum = mod-eq_of_lt (subst (λ n. carried now w.FileData < 2 ^ n) (sym file_width) (fit w.FileData))

  -- what goes out of a wire
  pub whole_value : (name : List ℕ) (wire : Wire) → width_in processor name ≡ width_of wire →
      assigned (width_in processor) now name (v.Named (name_of wire)) ≡ carried now wire
  whole_value name wire wide = mod-eq_of_lt (subst (λ n. carried now wire < 2 ^ n) (sym wide) (fit wire))
