-- A small language of circuits of words, and what a circuit does in a cycle. A word is a number, and a bit is 0 or 1.
use Rattle.std.specs.Prelude.{ℕ, zero, suc, ◌+◌, ◌-◌, ◌*◌, ◌/◌, ◌%◌, ◌^◌, ◌==◌, List, map, slice_index, bit_and, bit_or, bit_xor}
use Rattle.std.specs.Int.{from_bool as bit_of}
use Rattle.fm_circuit.specs.{declared.wire.Wire.{Wire}, declared.circuit.Pin.{Pin}, declared.circuit.Pin.TheVariants.{Whole, Bits}}
use Rattle.fm_circuit.specs.{declared.circuit.Pin.TheVariants.{Constant}, declared.circuit.Driver.{Driver}}
use Rattle.fm_circuit.specs.declared.circuit.Driver.TheVariants.{Register, Input, FileRead, Not, And, Or, Xor, Join, Add, Equal, Two, Four}
use Rattle.fm_circuit.specs.{declared.circuit.Driver.TheVariants.{Eight, Sixteen}, Widths.{width_of}, Processor.{driver_of}}

-- what a circuit keeps from cycle to cycle: its registers in the order of their numbers, and its register file
pub record Kept : Type 0 where
  pub registers : List ℕ
  pub file : List ℕ

-- a word without its lowest bits
abbrev pub above : ℕ → ℕ → ℕ
above word zero = word
above word (suc n) = word / 2 ^ suc n

-- the value at a pin, from those of the wires
abbrev pub pin_of : (Wire → ℕ) → Pin → ℕ
pin_of on (Whole wire) = on wire
pin_of on (Bits wire high low) = above (on wire) low % 2 ^ (high + 1 - low)
pin_of on (Constant width value) = value

abbrev pub pin_width : Pin → ℕ
pin_width (Whole wire) = width_of wire
pin_width (Bits wire high low) = high + 1 - low
pin_width (Constant width value) = width

-- the value at one of several pins, by a number
abbrev pub chosen : (Wire → ℕ) → Pin → List Pin → ℕ
chosen on by among = slice_index (map (pin_of on) among) (pin_of on by)

-- what a driver gives, from the values of the wires
abbrev pub driven : Kept → List ℕ → (Wire → ℕ) → Driver → ℕ
driven kept inputs on (Register number reset next) = slice_index kept.registers number
driven kept inputs on (Input number) = slice_index inputs number
driven kept inputs on (FileRead number) = slice_index kept.file (pin_of on number)
driven kept inputs on (Not p) = 2 ^ pin_width p - 1 - pin_of on p
driven kept inputs on (And p q) = bit_and (pin_of on p) (pin_of on q)
driven kept inputs on (Or p q) = bit_or (pin_of on p) (pin_of on q)
driven kept inputs on (Xor p q) = bit_xor (pin_of on p) (pin_of on q)
driven kept inputs on (Join p q) = pin_of on p * 2 ^ pin_width q + pin_of on q
driven kept inputs on (Add p q carry) = pin_of on p + pin_of on q + pin_of on carry
driven kept inputs on (Equal p q) = bit_of (pin_of on p == pin_of on q)
driven kept inputs on (Two by among) = chosen on by among
driven kept inputs on (Four by among) = chosen on by among
driven kept inputs on (Eight by among) = chosen on by among
driven kept inputs on (Sixteen by among) = chosen on by among

-- what a register takes at the end of a cycle
abbrev pub taken : (Wire → ℕ) → Driver → ℕ
taken on (Register number reset next) = pin_of on next
taken on driver = 0

-- what it takes where the circuit is reset
abbrev pub reset_of : Driver → ℕ
reset_of (Register number reset next) = reset
reset_of driver = 0

-- the value of a wire once this many levels of logic have settled
unfoldable pub settled : ℕ → Kept → List ℕ → Wire → ℕ
settled zero kept inputs wire = 0
settled (suc n) kept inputs wire = driven kept inputs (settled n kept inputs) (driver_of wire)
