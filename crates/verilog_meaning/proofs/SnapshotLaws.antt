-- The snapshot of a board, and a cycle of the module from it to that of the next.
use Rattle.std.proofs.Common.{◌≡◌, ℕ, ◌+◌, ◌^◌, ◌<◌, ◌==◌, ◌&&◌, Bool, true, false, not, List, [], ◌∷◌, length, refl, sym, ap, subst, ◌∙◌, ⊎_elim, arith, codes}
use Rattle.std.{proofs.Common.{eq-eqb, get_or-set_same, get_or-set_other, length-set, All, if◌then◌else◌}, proofs.lemmas.Bool.{cases_eq, ltb-true, ne_eqb}}
use Rattle.std.{proofs.lemmas.List.Elements.{All-nil, All-cons}, specs.Prelude.{map, bytes_eq, slice_index, slice_set}, specs.Int.from_bool as bit_of}
use Rattle.fm_circuit.{specs.declared.wire.Wire.Wire, specs.declared.circuit.Pin.Pin, specs.declared.circuit.Driver.Driver, specs.Widths.{width_of, wires}}
use Rattle.fm_circuit.{specs.Circuit.{pin_of, driven, taken, reset_of}, specs.Processor.driver_of, specs.Board.{Board, cycle_with, on_board, registers}}
use Rattle.fm_circuit.{specs.Sizes.{FitsBoard, is_sized}, proofs.SettledLaws.settled_on, proofs.SizeLaws.{driven_fits, fitting, sized}}
use Rattle.fm_circuit.specs.declared.wire.Wire.TheVariants as w
use Rattle.fm_circuit.specs.declared.circuit.Driver.TheVariants as d
use Rattle.fm_verilog.specs.WireNames.{name_of}
use Rattle.verilog_meaning.specs.Syntax as v
use Rattle.verilog_meaning.{specs.Meaning.{Snapshot, width_in, HasSettled, HasTaken, IsCycle}, specs.ProcessorModule.{declaration_of, driving_of, processor}}
use Rattle.verilog_meaning.{specs.ProcessorModule.{register_file, first_words, file_line, address_line, data_line, write_line}, specs.Laws.{Shows, GoesOn}}
use Rattle.verilog_meaning.{proofs.WidthLaws.{width_is, address_width, data_width, file_count}, proofs.ValueLaws.{carried, assigned_value}}
use Rattle.verilog_meaning.{proofs.ItemLaws.{positive, all_items, IsAt, all_at, numbers_from, rebuilt}, proofs.EdgeLaws.{edge_value, write_value, store_value}}
use Rattle.verilog_meaning.proofs.EdgeLaws.{whole_value}

-- a name with its value
record Valued : Type 0 where
  name : List ℕ
  number : ℕ

abbrev looked : List Valued → List ℕ → ℕ
looked [] name = 0
looked (entry ∷ entries) name = if bytes_eq entry.name name then entry.number else looked entries name

-- the values of ports and wires
abbrev table : ℕ → ℕ → ℕ → ℕ → (Wire → ℕ) → List Valued
table resets read outside writes on =
    record { name = codes "reset"; number = resets } ∷ record { name = codes "bus_read"; number = read }
    ∷ record { name = codes "bus_outside"; number = outside } ∷ record { name = codes "bus_address"; number = on w.Address }
    ∷ record { name = codes "bus_data"; number = on w.Out } ∷ record { name = codes "bus_write"; number = writes }
    ∷ map (λ wire. record { name = name_of wire; number = on wire }) wires

wire_found : (resets read outside writes : ℕ) (on : Wire → ℕ) (wire : Wire) → looked (table resets read outside writes on) (name_of wire) ≡ on wire
wire_found resets read outside writes on w.Phase = refl
wire_found resets read outside writes on wire = refl

port_found : (resets read outside writes : ℕ) (on : Wire → ℕ) →
    (looked (table resets read outside writes on) (codes "reset") ≡ resets)
    × (looked (table resets read outside writes on) (codes "bus_read") ≡ read)
    × (looked (table resets read outside writes on) (codes "bus_outside") ≡ outside)
    × (looked (table resets read outside writes on) (codes "bus_address") ≡ on w.Address)
    × (looked (table resets read outside writes on) (codes "bus_data") ≡ on w.Out)
    × (looked (table resets read outside writes on) (codes "bus_write") ≡ writes)
port_found resets read outside writes on = (refl, refl, refl, refl, refl, refl)

abbrev write_of : Bool → Board → ℕ
write_of reset b = bit_of (not reset && (on_board b w.MemoryWrite == 1))

unfoldable snapshot_of : Bool → Board → Snapshot
snapshot_of reset b =
    record { value = looked (table (bit_of reset) b.read b.outside (write_of reset b) (on_board b)); word = λ name r. slice_index b.kept.file r }

on_is : (reset : Bool) (b : Board) (wire : Wire) → carried (snapshot_of reset b) wire ≡ on_board b wire
unfolding snapshot_of
on_is reset b wire = wire_found (bit_of reset) b.read b.outside (write_of reset b) (on_board b) wire

-- the registers are what their wires carry
registers_on : (b : Board) → map (on_board b) registers ≡ map (λ i. slice_index b.kept.registers i) (numbers_from 0 9)
unfolding driver_of
registers_on b =
    λ j. sym (settled_on b.kept (b.read ∷ b.outside ∷ []) w.Phase) j ∷ sym (settled_on b.kept (b.read ∷ b.outside ∷ []) w.Ir) j
    ∷ sym (settled_on b.kept (b.read ∷ b.outside ∷ []) w.A) j ∷ sym (settled_on b.kept (b.read ∷ b.outside ∷ []) w.B) j
    ∷ sym (settled_on b.kept (b.read ∷ b.outside ∷ []) w.At) j ∷ sym (settled_on b.kept (b.read ∷ b.outside ∷ []) w.C) j
    ∷ sym (settled_on b.kept (b.read ∷ b.outside ∷ []) w.V) j ∷ sym (settled_on b.kept (b.read ∷ b.outside ∷ []) w.N) j
    ∷ sym (settled_on b.kept (b.read ∷ b.outside ∷ []) w.Z) j ∷ []

own_number : (xs : List ℕ) (i : ℕ) → slice_index xs (0 + i) ≡ slice_index xs i
own_number xs i = let e : 0 + i ≡ i = omega arith in ap (λ k. slice_index xs k) e

shown : (reset : Bool) (b : Board) → length b.kept.registers ≡ 9 → length b.kept.file ≡ 16 → Shows (snapshot_of reset b) reset b
unfolding snapshot_of
shown reset b nine sixteen =
    let ports = port_found (bit_of reset) b.read b.outside (write_of reset b) (on_board b) in
    record {
      kept = record {
        registers =
            ap (λ on. map on registers) (λ j wire. on_is reset b wire j) ∙ registers_on b
            ∙ rebuilt (λ i. slice_index b.kept.registers i) b.kept.registers 0 9 nine (own_number b.kept.registers);
        file = rebuilt (λ i. slice_index b.kept.file i) b.kept.file 0 16 sixteen (own_number b.kept.file);
      };
      reset = ports.0;
      read = ports.1;
      outside = ports.2;
    }

unit_declared : (m : v.Module) (now : Snapshot) (wire : Wire) (driver : Driver) → HasSettled (width_in m) now (declaration_of wire driver)
unit_declared m now wire (d.Register number reset next) = tt
unit_declared m now wire driver = tt

none_taken : (m : v.Module) (now next : Snapshot) (wire : Wire) (driver : Driver) → HasTaken m now next (declaration_of wire driver)
none_taken m now next wire (d.Register number reset next_pin) = tt
none_taken m now next wire driver = tt

all_of_two : (P : v.Item → Type 0) (x y : v.Item) → P x → P y → All P (x ∷ y ∷ [])
all_of_two P x y p q = All-cons P x (y ∷ []) p (All-cons P y [] q (All-nil P))

all_of_four : (P : v.Item → Type 0) (x y z u : v.Item) → P x → P y → P z → P u → All P (x ∷ y ∷ z ∷ u ∷ [])
all_of_four P x y z u p q r s = All-cons P x (y ∷ z ∷ u ∷ []) p (All-cons P y (z ∷ u ∷ []) q (all_of_two P z u r s))

-- a word of a list of which one is set
set_word : (t : Bool) (xs : List ℕ) (n x r : ℕ) → r < length xs →
    slice_index (if t then slice_set xs n x else xs) r ≡ (if t && (n == r) then x else slice_index xs r)
set_word false xs n x r lt = refl
set_word true xs n x r lt =
    ⊎_elim
    (λ e. ap (λ k. slice_index (slice_set xs k x) r) e ∙ get_or-set_same xs r x 0 lt
    ∙ sym (ap (λ t. if t then x else slice_index xs r) (eq-eqb n r e)))
    (λ ne. get_or-set_other xs n r x 0 (λ e. ne (sym e)) ∙ sym (ap (λ t. if t then x else slice_index xs r) (ne_eqb n r ne)))
    (cases_eq n r)

module _ (reset after : Bool) (b : Board) (fits : FitsBoard b) (nine : length b.kept.registers ≡ 9) (sixteen : length b.kept.file ≡ 16) where
  fit : (wire : Wire) → carried (snapshot_of reset b) wire < 2 ^ width_of wire
  fit wire = subst (λ x. x < 2 ^ width_of wire) (sym (on_is reset b wire)) ((fitting b fits).0 wire)

  ports : Shows (snapshot_of reset b) reset b
  ports = shown reset b nine sixteen

  file_at : (x : ℕ) → x < 16 → (snapshot_of reset b).word (codes "file") x ≡ slice_index b.kept.file x
  unfolding snapshot_of
  file_at x lt = refl

  agree : (wire : Wire) →
      carried (snapshot_of reset b) wire ≡ driven b.kept (b.read ∷ b.outside ∷ []) (carried (snapshot_of reset b)) (driver_of wire)
  agree wire =
      on_is reset b wire ∙ sym (settled_on b.kept (b.read ∷ b.outside ∷ []) wire)
      ∙ (λ j. driven b.kept (b.read ∷ b.outside ∷ []) (λ other. sym (on_is reset b other) j) (driver_of wire))

  settled_one : (wire : Wire) (driver : Driver) → is_sized (width_of wire) driver ≡ true →
      carried (snapshot_of reset b) wire ≡ driven b.kept (b.read ∷ b.outside ∷ []) (carried (snapshot_of reset b)) driver →
      HasSettled (width_in processor) (snapshot_of reset b) (driving_of wire driver)
  settled_one wire (d.Register number set pin) h is = tt
  settled_one wire driver h is =
      is
      ∙ sym (assigned_value (width_in processor) (snapshot_of reset b) width_is fit b.kept (b.read ∷ b.outside ∷ []) file_at ports.read ports.outside
      (width_in processor (name_of wire)) (width_of wire) driver (width_is wire) (ltb-true 0 (width_of wire) (positive wire)) refl h
      (driven_fits (carried (snapshot_of reset b)) fit b.kept (b.read ∷ b.outside ∷ []) fits.registers fits.file fits.inputs (width_of wire) driver
      h))

  -- the ports that go out
  outs :
      ((snapshot_of reset b).value (codes "bus_address") ≡ on_board b w.Address)
      × ((snapshot_of reset b).value (codes "bus_data") ≡ on_board b w.Out)
      × ((snapshot_of reset b).value (codes "bus_write") ≡ write_of reset b)
  unfolding snapshot_of
  outs =
      let found = port_found (bit_of reset) b.read b.outside (write_of reset b) (on_board b) in
      (found.3, found.4, found.5)

  -- a name that goes out
  settled_out : (name : List ℕ) (wire : Wire) → width_in processor name ≡ width_of wire → (snapshot_of reset b).value name ≡ on_board b wire →
      HasSettled (width_in processor) (snapshot_of reset b) (v.Assign name (v.Named (name_of wire)))
  settled_out name wire wide is = is ∙ sym (on_is reset b wire) ∙ sym (whole_value (snapshot_of reset b) reset ports.reset fit name wire wide)

  settled_write : HasSettled (width_in processor) (snapshot_of reset b)
      write_line
  settled_write =
      outs.2 ∙ ap (λ x. bit_of (not reset && (x == 1))) (sym (on_is reset b w.MemoryWrite))
      ∙ sym (write_value (snapshot_of reset b) reset ports.reset fit)

  now_settled : All (HasSettled (width_in processor) (snapshot_of reset b)) processor.items
  now_settled =
      all_items (HasSettled (width_in processor) (snapshot_of reset b))
      (all_of_two (HasSettled (width_in processor) (snapshot_of reset b)) register_file first_words tt tt)
      (λ wire. unit_declared processor (snapshot_of reset b) wire (driver_of wire))
      (λ wire. settled_one wire (driver_of wire) (sized wire) (agree wire))
      (all_of_four (HasSettled (width_in processor) (snapshot_of reset b)) file_line address_line data_line write_line tt
      (settled_out (codes "bus_address") w.Address address_width outs.0) (settled_out (codes "bus_data") w.Out data_width outs.1) settled_write)

  -- the value of a register's wire in the next snapshot
  register_next : (wire : Wire) (number set : ℕ) (pin : Pin) → driver_of wire ≡ d.Register number set pin → IsAt wire (d.Register number set pin) →
      carried (snapshot_of after (cycle_with reset b)) wire ≡ (if reset then set else pin_of (on_board b) pin)
  register_next wire number set pin is at =
      on_is after (cycle_with reset b) wire
      ∙ sym (settled_on (cycle_with reset b).kept ((cycle_with reset b).read ∷ (cycle_with reset b).outside ∷ []) wire)
      ∙ ap (λ driver. driven (cycle_with reset b).kept ((cycle_with reset b).read ∷ (cycle_with reset b).outside ∷ []) (on_board (cycle_with reset b))
      driver) is
      ∙ at (λ other. if reset then reset_of (driver_of other) else taken (on_board b) (driver_of other))
      ∙ ap (λ driver. if reset then reset_of driver else taken (on_board b) driver) is

  taken_one : (wire : Wire) (driver : Driver) → driver_of wire ≡ driver → is_sized (width_of wire) driver ≡ true → IsAt wire driver →
      HasTaken processor (snapshot_of reset b) (snapshot_of after (cycle_with reset b)) (driving_of wire driver)
  taken_one wire (d.Register number set pin) is h at =
      register_next wire number set pin is at
      ∙ (λ j. if reset then set else pin_of (λ other. sym (on_is reset b other) j) pin)
      ∙ sym (edge_value (snapshot_of reset b) reset ports.reset fit wire number set pin h)
  taken_one wire driver is h at = tt

  word_next : (r : ℕ) → r < 16 →
      (snapshot_of after (cycle_with reset b)).word (codes "file") r ≡
      (if (not reset && (on_board b w.FileWrite == 1)) && (on_board b w.Number == r) then on_board b w.FileData else (snapshot_of reset b).word
      (codes "file") r)
  unfolding snapshot_of
  word_next r lt =
      set_word (not reset && (on_board b w.FileWrite == 1)) b.kept.file (on_board b w.Number) (on_board b w.FileData) r
      (subst (λ n. r < n) (sym sixteen) lt)

  stored : HasTaken processor (snapshot_of reset b) (snapshot_of after (cycle_with reset b)) file_line
  stored r lt =
      word_next r (subst (λ n. r < n) file_count lt)
      ∙ (λ j. if (not reset && (sym (on_is reset b w.FileWrite) j == 1)) && (sym (on_is reset b w.Number) j == r) then sym (on_is reset b w.FileData)
      j else (snapshot_of reset b).word (codes "file") r)
      ∙ sym (store_value (snapshot_of reset b) reset ports.reset fit r)

  now_taken : All (HasTaken processor (snapshot_of reset b) (snapshot_of after (cycle_with reset b))) processor.items
  now_taken =
      all_items (HasTaken processor (snapshot_of reset b) (snapshot_of after (cycle_with reset b)))
      (all_of_two (HasTaken processor (snapshot_of reset b) (snapshot_of after (cycle_with reset b))) register_file first_words tt tt)
      (λ wire. none_taken processor (snapshot_of reset b) (snapshot_of after (cycle_with reset b)) wire (driver_of wire))
      (λ wire. taken_one wire (driver_of wire) refl (sized wire) (all_at wire))
      (all_of_four (HasTaken processor (snapshot_of reset b) (snapshot_of after (cycle_with reset b))) file_line address_line data_line write_line
      stored tt tt tt)

  next_file : length (cycle_with reset b).kept.file ≡ 16
  next_file = long (not reset && (on_board b w.FileWrite == 1)) ∙ sixteen
    where
      long : (t : Bool) → length (if t then slice_set b.kept.file (on_board b w.Number) (on_board b w.FileData) else b.kept.file) ≡ length b.kept.file
      long true = length-set b.kept.file (on_board b w.Number) (on_board b w.FileData)
      long false = refl

  there_is : (now : Snapshot) × (next : Snapshot) × Shows now reset b × IsCycle processor now next × Shows next after (cycle_with reset b)
  there_is = (
    snapshot_of reset b,
    snapshot_of after (cycle_with reset b),
    ports,
    record { settled = now_settled; taken = now_taken },
    shown after
        (cycle_with reset b) refl next_file,
  )

pub goes_on : GoesOn
goes_on reset after b fits nine sixteen = there_is reset after b fits nine sixteen
