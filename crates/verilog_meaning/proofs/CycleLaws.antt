-- Each cycle of the module is a cycle of the circuit.
use Rattle.std.proofs.Common.{◌≡◌, ℕ, ◌+◌, ◌%◌, ◌^◌, ◌<◌, ◌==◌, ◌&&◌, max, Bool, true, not, [], ◌∷◌, refl, sym, ap, subst, ◌∙◌, arith, codes, pow_pos, mod-lt}
use Rattle.std.{proofs.Common.{nat_lt, Contains, if◌then◌else◌}, proofs.lemmas.Bool.{eqb-true, ltb-true, and_parts}, proofs.lemmas.List.Elements.All-contains}
use Rattle.std.{specs.Prelude.{map, slice_index, slice_set}, specs.Int.from_bool as bit_of}
use Rattle.fm_circuit.{specs.declared.wire.Wire.Wire, specs.declared.circuit.Driver.Driver, specs.Widths.width_of, specs.Circuit.{pin_of, driven, taken}}
use Rattle.fm_circuit.{specs.Circuit.reset_of, specs.Processor.driver_of, specs.Board.{Board, registers, on_board, kept_next}, specs.Sizes.FitsBoard}
use Rattle.fm_circuit.{specs.Sizes.{register_widths, has_width, is_sized}, proofs.SettledLaws.only_settled, proofs.SizeLaws.{driven_fits, sized}}
use Rattle.fm_circuit.specs.declared.wire.Wire.TheVariants as w
use Rattle.fm_circuit.specs.declared.circuit.Driver.TheVariants as d
use Rattle.fm_gates.{specs.Gates.file_numbers, proofs.WordLaws.file_words}
use Rattle.fm_verilog.specs.WireNames.{name_of}
use Rattle.verilog_meaning.{specs.Syntax.Item, specs.Meaning.{Snapshot, size, value_of, width_in, HasSettled, HasTaken, IsCycle}}
use Rattle.verilog_meaning.specs.ProcessorModule.{expression_of, driving_of, file_line, address_line, data_line, write_line, out_items, processor}
use Rattle.verilog_meaning.{specs.Laws.{Keeps, Shows, IsBoardCycle, Means}, proofs.WidthLaws.{width_is, address_width, data_width, file_count}}
use Rattle.verilog_meaning.{proofs.ValueLaws.{carried, assigned_value}, proofs.ItemLaws.{positive, driving_there, out_there, IsAt, all_at, number_at}}
use Rattle.verilog_meaning.proofs.EdgeLaws.{edge_value, write_value, store_value, whole_value}

cut : (x y n m : ℕ) → n ≡ m → x ≡ y % 2 ^ n → x < 2 ^ m
cut x y n m e is = subst (λ k. x < 2 ^ k) e (subst (λ z. z < 2 ^ n) (sym is) (mod-lt y (pow_pos n)))

-- what a register takes
abbrev Takes : Snapshot → Snapshot → Bool → Wire → Driver → Type 0
Takes now next reset wire (d.Register number set pin) = next.value (name_of wire) ≡ (if reset then set else pin_of (carried now) pin)
Takes now next reset wire driver = next.value (name_of wire) ≡ next.value (name_of wire)

module _ (now next : Snapshot) (reset : Bool) (b : Board) (fits : FitsBoard b) (shows : Shows now reset b) (cycle : IsCycle processor now next) where
  settled_at : (wire : Wire) → HasSettled (width_in processor) now (driving_of wire (driver_of wire))
  settled_at wire =
      All-contains (HasSettled (width_in processor) now) processor.items (driving_of wire (driver_of wire)) cycle.settled (driving_there wire)

  taken_at : (wire : Wire) → HasTaken processor now next (driving_of wire (driver_of wire))
  taken_at wire = All-contains (HasTaken processor now next) processor.items (driving_of wire (driver_of wire)) cycle.taken (driving_there wire)

  register_value : (wire : Wire) (number : ℕ) → slice_index (map (carried now) registers) number ≡ carried now wire →
      carried now wire ≡ slice_index b.kept.registers number
  register_value wire number at = sym at ∙ ap (λ rs. slice_index rs number) shows.kept.registers

  fit_one : (wire : Wire) (driver : Driver) → is_sized (width_of wire) driver ≡ true → IsAt wire driver →
      HasSettled (width_in processor) now (driving_of wire driver) → carried now wire < 2 ^ width_of wire
  fit_one wire (d.Register number reset next) h at settled =
      let parts = and_parts ((slice_index register_widths number == width_of wire) && nat_lt reset (2 ^ width_of wire))
      (has_width (width_of wire) next) h in
      let wide = eqb-true (slice_index register_widths number) (width_of wire)
      (and_parts (slice_index register_widths number == width_of wire) (nat_lt reset (2 ^ width_of wire)) parts.0).0 in
      subst (λ x. x < 2 ^ width_of wire) (sym (register_value wire number (at (carried now))))
      (subst (λ n. slice_index b.kept.registers number < 2 ^ n) wide (fits.registers number))
  fit_one wire driver h at settled =
      cut (carried now wire)
      (value_of (width_in processor) now (max (width_in processor (name_of wire)) (size (width_in processor) (expression_of driver)))
      (expression_of driver)) (width_in processor (name_of wire)) (width_of wire) (width_is wire) settled

  fit : (wire : Wire) → carried now wire < 2 ^ width_of wire
  fit wire = fit_one wire (driver_of wire) (sized wire) (all_at wire) (settled_at wire)

  file_at : (x : ℕ) → x < 16 → now.word (codes "file") x ≡ slice_index b.kept.file x
  file_at x lt =
      sym (number_at (λ r. now.word (codes "file") r) 0 16 x lt ∙ ap (λ r. now.word (codes "file") r) (none x))
      ∙ ap (λ words. slice_index words x) shows.kept.file
    where
      none : (x : ℕ) → 0 + x ≡ x
      none x = omega arith

  agree_one : (wire : Wire) (driver : Driver) → is_sized (width_of wire) driver ≡ true → IsAt wire driver →
      HasSettled (width_in processor) now (driving_of wire driver) → carried now wire ≡ driven b.kept (b.read ∷ b.outside ∷ []) (carried now) driver
  agree_one wire (d.Register number reset next) h at settled = register_value wire number (at (carried now))
  agree_one wire driver h at settled =
      settled
      ∙ assigned_value (width_in processor) now width_is fit b.kept (b.read ∷ b.outside ∷ []) file_at shows.read shows.outside
      (width_in processor (name_of wire)) (width_of wire) driver (width_is wire) (ltb-true 0 (width_of wire) (positive wire)) refl h
      (driven_fits (carried now) fit b.kept (b.read ∷ b.outside ∷ []) fits.registers fits.file fits.inputs (width_of wire) driver h)

  agree : (wire : Wire) → carried now wire ≡ driven b.kept (b.read ∷ b.outside ∷ []) (carried now) (driver_of wire)
  agree wire = agree_one wire (driver_of wire) (sized wire) (all_at wire) (settled_at wire)

  on_all : (wire : Wire) → carried now wire ≡ on_board b wire
  on_all wire = only_settled (carried now) b.kept (b.read ∷ b.outside ∷ []) agree wire

  on_same : carried now ≡ on_board b
  on_same = λ j wire. on_all wire j

  -- what goes out
  out_at : (item : Item) → Contains out_items item → HasSettled (width_in processor) now item
  out_at item h = All-contains (HasSettled (width_in processor) now) processor.items item cycle.settled (out_there item h)

  address : now.value (codes "bus_address") ≡ on_board b w.Address
  address =
      out_at address_line (1, omega arith, refl)
      ∙ whole_value now reset shows.reset fit (codes "bus_address") w.Address address_width ∙ on_all w.Address

  data_out : now.value (codes "bus_data") ≡ on_board b w.Out
  data_out =
      out_at data_line (2, omega arith, refl)
      ∙ whole_value now reset shows.reset fit (codes "bus_data") w.Out data_width ∙ on_all w.Out

  write : now.value (codes "bus_write") ≡ bit_of (not reset && (on_board b w.MemoryWrite == 1))
  write =
      out_at write_line (3, omega arith, refl)
      ∙ write_value now reset shows.reset fit ∙ ap (λ x. bit_of (not reset && (x == 1))) (on_all w.MemoryWrite)

  -- what the registers take
  taken_one : (wire : Wire) (driver : Driver) → is_sized (width_of wire) driver ≡ true → HasTaken processor now next (driving_of wire driver) →
      Takes now next reset wire driver
  taken_one wire (d.Register number set pin) h took = took ∙ edge_value now reset shows.reset fit wire number set pin h
  taken_one wire driver h took = refl

  all_taken : (wire : Wire) → Takes now next reset wire (driver_of wire)
  all_taken wire = taken_one wire (driver_of wire) (sized wire) (taken_at wire)

  registers_taken :
      map (λ wire. next.value (name_of wire)) registers
      ≡ map (λ wire. if reset then reset_of (driver_of wire) else taken (carried now) (driver_of wire)) registers
  unfolding driver_of
  registers_taken =
      λ j. all_taken w.Phase j ∷ all_taken w.Ir j ∷ all_taken w.A j ∷ all_taken w.B j ∷ all_taken w.At j ∷ all_taken w.C j ∷ all_taken w.V j
      ∷ all_taken w.N j ∷ all_taken w.Z j ∷ []

  -- what the register file takes
  stored : HasTaken processor now next file_line
  stored = All-contains (HasTaken processor now next) processor.items file_line cycle.taken (out_there file_line (0, omega arith, refl))

  stored_at : (r : ℕ) → r < 16 →
      next.word (codes "file") r
      ≡ (if (not reset && (carried now w.FileWrite == 1)) && (carried now w.Number == r) then carried now w.FileData else now.word (codes "file") r)
  stored_at r lt = stored r (subst (λ n. r < n) (sym file_count) lt) ∙ store_value now reset shows.reset fit r

  file_taken :
      map (next.word (codes "file")) file_numbers
      ≡ (if not reset && (carried now w.FileWrite == 1) then slice_set b.kept.file (carried now w.Number) (carried now w.FileData) else b.kept.file)
  file_taken =
      file_words (not reset && (carried now w.FileWrite == 1)) (carried now w.Number) (carried now w.FileData) (now.word (codes "file"))
      (next.word (codes "file")) stored_at
      ∙ ap (λ file. if not reset && (carried now w.FileWrite == 1) then slice_set file (carried now w.Number) (carried now w.FileData) else file)
      shows.kept.file

  kept_on : Keeps next (kept_next reset b.kept.file (carried now))
  kept_on = record { registers = registers_taken; file = file_taken }

  board_cycle : IsBoardCycle now next reset b
  board_cycle =
      record {
        wires = on_all;
        address = address;
        out = data_out;
        write = write;
        kept = subst (λ on. Keeps next (kept_next reset b.kept.file on)) on_same kept_on;
      }

pub means : Means
means now next reset b fits shows cycle = board_cycle now next reset b fits shows cycle
