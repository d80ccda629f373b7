-- The netlist's expressions as the code writes them.
use Rattle.std.specs.Prelude.{ℕ, ◌+◌, ◌-◌, ◌==◌, List, ◌++◌, Option, Some, None, codes, drop, nat_lt, slice_get, if◌then◌else◌}
use Rattle.std.specs.{Fmt.{decimal}, Int.{bit_at}}
use Rattle.fm_circuit.specs.{declared.wire.Wire.{Wire}, declared.circuit.Pin.{Pin}, declared.circuit.Pin.TheVariants.{Whole, Bits}}
use Rattle.fm_circuit.specs.{declared.circuit.Pin.TheVariants.{Constant}, declared.circuit.Driver.{Driver}, Circuit.{pin_width}}
use Rattle.fm_circuit.specs.declared.wire.Wire.TheVariants as w
use Rattle.fm_circuit.specs.declared.circuit.Driver.TheVariants as d
use Rattle.fm_verilog.specs.WireNames.{name_of}
use Rattle.fm_netlist.specs.NetlistText.{below, indexed, carry_text, file_text, input_text}

-- `1'd0`
abbrev pub constant_text : ℕ → List ℕ
constant_text bit = codes "1'd" ++ decimal bit

-- a bit of a pin
abbrev pub pin_text : Pin → ℕ → List ℕ
pin_text (Whole wire) i = indexed (name_of wire) i
pin_text (Bits wire high low) i = indexed (name_of wire) (low + i)
pin_text (Constant width value) i = constant_text (bit_at value i)

-- `(a[5] & b[5])`
abbrev pub between : List ℕ → Pin → Pin → ℕ → List ℕ
between operator p q i = codes "(" ++ pin_text p i ++ operator ++ pin_text q i ++ codes ")"

-- the first of several pins
abbrev pub first_text : Option Pin → ℕ → List ℕ
first_text None i = codes "1'd0"
first_text (Some p) i = pin_text p i

-- one of 2, 4, 8 and 16 pins, by the lowest bits of a pin: the highest of these chooses between two halves
unfoldable pub choice_0 : Pin → List Pin → ℕ → List ℕ
choice_0 by among i = first_text (slice_get among 0) i

unfoldable pub choice_1 : Pin → List Pin → ℕ → List ℕ
choice_1 by among i =
    codes "(" ++ pin_text by 0 ++ codes " ? " ++ choice_0 by (drop 1 among) i ++ codes " : " ++ choice_0 by among i ++ codes ")"

unfoldable pub choice_2 : Pin → List Pin → ℕ → List ℕ
choice_2 by among i =
    codes "(" ++ pin_text by 1 ++ codes " ? " ++ choice_1 by (drop 2 among) i ++ codes " : " ++ choice_1 by among i ++ codes ")"

unfoldable pub choice_3 : Pin → List Pin → ℕ → List ℕ
choice_3 by among i =
    codes "(" ++ pin_text by 2 ++ codes " ? " ++ choice_2 by (drop 4 among) i ++ codes " : " ++ choice_2 by among i ++ codes ")"

unfoldable pub choice_4 : Pin → List Pin → ℕ → List ℕ
choice_4 by among i =
    codes "(" ++ pin_text by 3 ++ codes " ? " ++ choice_3 by (drop 8 among) i ++ codes " : " ++ choice_3 by among i ++ codes ")"

-- the same of the register file's words, from one on
unfoldable pub word_0 : Pin → ℕ → ℕ → List ℕ
word_0 by r i = file_text r i

unfoldable pub word_1 : Pin → ℕ → ℕ → List ℕ
word_1 by r i =
    codes "(" ++ pin_text by 0 ++ codes " ? " ++ word_0 by (r + 1) i ++ codes " : " ++ word_0 by r i ++ codes ")"

unfoldable pub word_2 : Pin → ℕ → ℕ → List ℕ
word_2 by r i =
    codes "(" ++ pin_text by 1 ++ codes " ? " ++ word_1 by (r + 2) i ++ codes " : " ++ word_1 by r i ++ codes ")"

unfoldable pub word_3 : Pin → ℕ → ℕ → List ℕ
word_3 by r i =
    codes "(" ++ pin_text by 2 ++ codes " ? " ++ word_2 by (r + 4) i ++ codes " : " ++ word_2 by r i ++ codes ")"

unfoldable pub word_4 : Pin → ℕ → List ℕ
word_4 by i =
    codes "(" ++ pin_text by 3 ++ codes " ? " ++ word_3 by 8 i ++ codes " : " ++ word_3 by 0 i ++ codes ")"

-- whether two pins are equal in so many bits
abbrev pub agreeing_text : Pin → Pin → ℕ → List ℕ
agreeing_text p q i = codes " & ~" ++ between (codes " ^ ") p q i ++ codes ")"

abbrev pub opening_text : ℕ → List ℕ
opening_text i = codes "("

abbrev pub equal_text : Pin → Pin → ℕ → List ℕ
equal_text p q n = below opening_text n ++ codes "1'd1" ++ below (agreeing_text p q) n

-- a bit of a sum
abbrev pub sum_text : Wire → Pin → Pin → ℕ → List ℕ
sum_text wire p q i =
    if nat_lt i (pin_width p) then codes "(" ++ between (codes " ^ ") p q i ++ codes " ^ " ++ carry_text wire i ++ codes ")"
    else carry_text wire i

-- a bit of two pins, one above the other
abbrev pub join_text : Pin → Pin → ℕ → List ℕ
join_text p q i = if nat_lt i (pin_width q) then pin_text q i else pin_text p (i - pin_width q)

-- what gives a bit of a wire, or what it takes where it is a register's
unfoldable pub bit_text : Wire → Driver → ℕ → List ℕ
bit_text wire (d.Register number reset next) i =
    codes "(reset ? " ++ constant_text (bit_at reset i) ++ codes " : " ++ pin_text next i ++ codes ")"
bit_text wire (d.Input number) i = input_text number i
bit_text wire (d.FileRead number) i = word_4 number i
bit_text wire (d.Not p) i = codes "~" ++ pin_text p i
bit_text wire (d.And p q) i = between (codes " & ") p q i
bit_text wire (d.Or p q) i = between (codes " | ") p q i
bit_text wire (d.Xor p q) i = between (codes " ^ ") p q i
bit_text wire (d.Join p q) i = join_text p q i
bit_text wire (d.Add p q carry) i = sum_text wire p q i
bit_text wire (d.Equal p q) i = equal_text p q (pin_width p)
bit_text wire (d.Two by among) i = choice_1 by among i
bit_text wire (d.Four by among) i = choice_2 by among i
bit_text wire (d.Eight by among) i = choice_3 by among i
bit_text wire (d.Sixteen by among) i = choice_4 by among i

-- the carry into a bit of a sum
abbrev pub carried_text : Wire → Pin → Pin → Pin → ℕ → List ℕ
carried_text wire p q carry i =
    if i == 0 then pin_text carry 0
    else codes "(" ++ between (codes " ^ ") p q (i - 1)
    ++ codes " ? " ++ carry_text wire (i - 1) ++ codes " : " ++ pin_text p (i - 1) ++ codes ")"

-- whether there is no reset and a pin's bit is on, and
unfoldable pub written_text : Pin → List ℕ
written_text write = codes "((~reset & (" ++ pin_text write 0 ++ codes " & "

-- a pin's bit where that is so, else the word's own
unfoldable pub taken_text : Pin → ℕ → ℕ → List ℕ
taken_text next r i = codes ")) ? " ++ pin_text next i ++ codes " : " ++ file_text r i ++ codes ")"

-- what a bit of a word of the register file takes
abbrev pub kept_text : ℕ → ℕ → List ℕ
kept_text r i =
    written_text (Whole w.FileWrite) ++ equal_text (Whole w.Number) (Constant 4 r) 4 ++ taken_text (Whole w.FileData) r i
