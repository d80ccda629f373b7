-- The circuit's words as bits: each bit of each wire as gates over bits.
use Rattle.std.specs.Prelude.{ℕ, zero, suc, ◌+◌, ◌-◌, ◌%◌, ◌^◌, List, [], ◌∷◌, map, slice_index, nat_lt, if◌then◌else◌, drop, min, max}
use Rattle.std.specs.Int.{bit_at}
use Rattle.fm_circuit.specs.{declared.wire.Wire.{Wire}, declared.circuit.Pin.{Pin}, declared.circuit.Pin.TheVariants.{Whole, Bits}}
use Rattle.fm_circuit.specs.{declared.circuit.Pin.TheVariants.{Constant}, declared.circuit.Driver.{Driver}, Circuit.{pin_width}}
use Rattle.fm_circuit.specs.declared.wire.Wire.TheVariants as w
use Rattle.fm_circuit.specs.declared.circuit.Driver.TheVariants as d

-- a gate over bits: a constant; a bit of a wire, a carry of a sum, a bit of a register, of an input or of a word of the register file, or
-- the reset; or one of the gates not, and, or, exclusive or, and a choice of two
pub data Gate : Type 0 where
  Off : Gate
  On : Gate
  WireBit : Wire → ℕ → Gate
  CarryBit : Wire → ℕ → Gate
  RegisterBit : ℕ → ℕ → Gate
  InputBit : ℕ → ℕ → Gate
  FileBit : ℕ → ℕ → Gate
  Reset : Gate
  Inverse : Gate → Gate
  Both : Gate → Gate → Gate
  Either : Gate → Gate → Gate
  Differ : Gate → Gate → Gate
  Pick : Gate → Gate → Gate → Gate

-- what a netlist carries: the bits of wires, the carries into the bits of sums, the bits of registers, inputs and the register file's
-- words, each by a number and the bit's, and the reset
pub record Signals : Type 0 where
  pub wire : Wire → ℕ → ℕ
  pub carry : Wire → ℕ → ℕ
  pub register : ℕ → ℕ → ℕ
  pub input : ℕ → ℕ → ℕ
  pub file : ℕ → ℕ → ℕ
  pub reset : ℕ

-- the bit that a gate gives
abbrev pub gate_value : Signals → Gate → ℕ
gate_value s Off = 0
gate_value s On = 1
gate_value s (WireBit wire i) = s.wire wire i
gate_value s (CarryBit wire i) = s.carry wire i
gate_value s (RegisterBit number i) = s.register number i
gate_value s (InputBit number i) = s.input number i
gate_value s (FileBit number i) = s.file number i
gate_value s Reset = s.reset
gate_value s (Inverse g) = 1 - gate_value s g
gate_value s (Both g h) = min (gate_value s g) (gate_value s h)
gate_value s (Either g h) = max (gate_value s g) (gate_value s h)
gate_value s (Differ g h) = (gate_value s g + gate_value s h) % 2
gate_value s (Pick by g h) = slice_index (gate_value s g ∷ gate_value s h ∷ []) (gate_value s by)

-- a constant bit
abbrev pub constant_gate : ℕ → Gate
constant_gate zero = Off
constant_gate (suc n) = On

-- a bit of a pin
abbrev pub pin_gate : Pin → ℕ → Gate
pin_gate (Whole wire) i = WireBit wire i
pin_gate (Bits wire high low) i = WireBit wire (low + i)
pin_gate (Constant width value) i = constant_gate (bit_at value i)

-- the carry into a bit of a wire that is a sum: where both bits below differ it is the carry into them, else it is either of them
abbrev pub carry_gate : Wire → Driver → ℕ → Gate
carry_gate wire (d.Add p q carry) zero = pin_gate carry 0
carry_gate wire (d.Add p q carry) (suc i) = Pick (Differ (pin_gate p i) (pin_gate q i)) (pin_gate p i) (CarryBit wire i)
carry_gate wire driver i = Off

-- whether two pins are equal in so many bits
unfoldable pub equal_gate : Pin → Pin → ℕ → Gate
equal_gate p q zero = On
equal_gate p q (suc i) = Both (equal_gate p q i) (Inverse (Differ (pin_gate p i) (pin_gate q i)))

-- the first of several gates
abbrev pub first_gate : List Gate → Gate
first_gate [] = Off
first_gate (g ∷ gates) = g

-- one of several gates by so many bits of a pin: its highest bit chooses between two halves
unfoldable pub choice_gate : ℕ → Pin → List Gate → Gate
choice_gate zero by gates = first_gate gates
choice_gate (suc k) by gates = Pick (pin_gate by k) (choice_gate k by gates) (choice_gate k by (drop (2 ^ k) gates))

-- a bit of one of several pins
abbrev pub choice_of_pins : ℕ → Pin → List Pin → ℕ → Gate
choice_of_pins k by among i = choice_gate k by (map (λ p. pin_gate p i) among)

-- the numbers of the register file's words
abbrev pub file_numbers : List ℕ
file_numbers = 0 ∷ 1 ∷ 2 ∷ 3 ∷ 4 ∷ 5 ∷ 6 ∷ 7 ∷ 8 ∷ 9 ∷ 10 ∷ 11 ∷ 12 ∷ 13 ∷ 14 ∷ 15 ∷ []

-- the gates of a bit of a wire
abbrev pub driver_gate : Wire → Driver → ℕ → Gate
driver_gate wire (d.Register number reset next) i = RegisterBit number i
driver_gate wire (d.Input number) i = InputBit number i
driver_gate wire (d.FileRead number) i = choice_gate 4 number (map (λ r. FileBit r i) file_numbers)
driver_gate wire (d.Not p) i = Inverse (pin_gate p i)
driver_gate wire (d.And p q) i = Both (pin_gate p i) (pin_gate q i)
driver_gate wire (d.Or p q) i = Either (pin_gate p i) (pin_gate q i)
driver_gate wire (d.Xor p q) i = Differ (pin_gate p i) (pin_gate q i)
driver_gate wire (d.Join p q) i = if nat_lt i (pin_width q) then pin_gate q i else pin_gate p (i - pin_width q)
driver_gate wire (d.Add p q carry) i =
    if nat_lt i (pin_width p) then Differ (Differ (pin_gate p i) (pin_gate q i)) (CarryBit wire i) else CarryBit wire i
driver_gate wire (d.Equal p q) i = equal_gate p q (pin_width p)
driver_gate wire (d.Two by among) i = choice_of_pins 1 by among i
driver_gate wire (d.Four by among) i = choice_of_pins 2 by among i
driver_gate wire (d.Eight by among) i = choice_of_pins 3 by among i
driver_gate wire (d.Sixteen by among) i = choice_of_pins 4 by among i

-- what a bit of a register takes at the end of a cycle
abbrev pub next_gate : Driver → ℕ → Gate
next_gate (d.Register number reset next) i = Pick Reset (pin_gate next i) (constant_gate (bit_at reset i))
next_gate driver i = Off

-- what a bit of a word of the register file takes: that of the data where the word is written, else its own
abbrev pub file_gate : ℕ → ℕ → Gate
file_gate r i =
    Pick (Both (Inverse Reset) (Both (WireBit w.FileWrite 0) (equal_gate (Whole w.Number) (Constant 4 r) 4)))
    (FileBit r i) (WireBit w.FileData i)

-- whether memory is written
abbrev pub write_gate : Gate
write_gate = Both (Inverse Reset) (WireBit w.MemoryWrite 0)
