-- The widths of a circuit go together, and each value fits its wire.
use Rattle.std.specs.Prelude.{◌≡◌, ℕ, ◌+◌, ◌-◌, ◌<◌, ◌^◌, ◌==◌, ◌&&◌, Bool, true, List, [], ◌∷◌, length, map, nat_lt, nat_le, slice_index}
use Rattle.std.specs.List.{list_all}
use Rattle.fm_circuit.specs.{declared.wire.Wire.{Wire}, declared.circuit.Pin.{Pin}, declared.circuit.Pin.TheVariants.{Whole, Bits}}
use Rattle.fm_circuit.specs.{declared.circuit.Pin.TheVariants.{Constant}, declared.circuit.Driver.{Driver}}
use Rattle.fm_circuit.specs.declared.circuit.Driver.TheVariants.{Register, Input, FileRead, Not, And, Or, Xor, Join, Add, Equal, Two, Four}
use Rattle.fm_circuit.specs.{declared.circuit.Driver.TheVariants.{Eight, Sixteen}, Widths.{width_of}, Circuit.{pin_width}}
use Rattle.fm_circuit.specs.{Processor.{driver_of}, Board.{Board, cycle, reset_cycle, on_board, registers}, Following.{AreWords}}

-- the widths of the registers, and of the inputs
abbrev pub register_widths : List ℕ
register_widths = map width_of registers

abbrev pub input_widths : List ℕ
input_widths = 32 ∷ 1 ∷ []

-- a pin has this width, and is there: its bits are on its wire, and a constant fits
abbrev pub has_width : ℕ → Pin → Bool
has_width width (Whole wire) = width_of wire == width
has_width width (Bits wire high low) = nat_le low high && nat_lt high (width_of wire) && (high + 1 - low == width)
has_width width (Constant own value) = (own == width) && nat_lt value (2 ^ width)

-- one of so many pins of a width, by so many bits
abbrev pub is_choice : ℕ → ℕ → Pin → List Pin → Bool
is_choice width bits by among = has_width bits by && (length among == 2 ^ bits) && list_all (has_width width) among

-- a driver gives a wire of this width, and all that it takes has the widths that go with it
abbrev pub is_sized : ℕ → Driver → Bool
is_sized width (Register number reset next) =
    (slice_index register_widths number == width) && nat_lt reset (2 ^ width) && has_width width next
is_sized width (Input number) = slice_index input_widths number == width
is_sized width (FileRead number) = (width == 32) && has_width 4 number
is_sized width (Not p) = has_width width p
is_sized width (And p q) = has_width width p && has_width width q
is_sized width (Or p q) = has_width width p && has_width width q
is_sized width (Xor p q) = has_width width p && has_width width q
is_sized width (Join p q) = has_width (pin_width p) p && has_width (pin_width q) q && (pin_width p + pin_width q == width)
is_sized width (Add p q carry) = has_width (pin_width p) p && has_width (pin_width p) q && has_width 1 carry && (pin_width p + 1 == width)
is_sized width (Equal p q) = (width == 1) && has_width (pin_width p) p && has_width (pin_width p) q
is_sized width (Two by among) = is_choice width 1 by among
is_sized width (Four by among) = is_choice width 2 by among
is_sized width (Eight by among) = is_choice width 3 by among
is_sized width (Sixteen by among) = is_choice width 4 by among

-- the words of a list fit these widths
abbrev pub FitWidths : List ℕ → List ℕ → Type 0
FitWidths widths words = (i : ℕ) → slice_index words i < 2 ^ slice_index widths i

-- what a board keeps fits its places
pub record FitsBoard (b : Board) : Type 0 where
  pub registers : FitWidths register_widths b.kept.registers
  pub file : AreWords b.kept.file
  pub inputs : FitWidths input_widths (b.read ∷ b.outside ∷ [])
  pub memory : AreWords b.memory

-- the widths of each wire's driver go with its own
abbrev pub Sized : Type 0
Sized = (wire : Wire) → is_sized (width_of wire) (driver_of wire) ≡ true

-- where all that a board keeps fits, so does the value of each wire, and all that it keeps after the cycle, with a reset or without
abbrev pub Fitting : Type 0
Fitting =
    (b : Board) → FitsBoard b →
    ((wire : Wire) → on_board b wire < 2 ^ width_of wire) × FitsBoard (cycle b) × FitsBoard (reset_cycle b)
