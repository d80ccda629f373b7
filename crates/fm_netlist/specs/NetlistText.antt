-- The netlist as Verilog text: a line for each bit of each wire, for each carry of a sum, and for each bit of the register file, with what
-- its gates are (`Rattle.fm_gates.specs.Gates`).
use Rattle.std.specs.{Prelude.{ℕ, zero, suc, ◌-◌, List, ◌++◌, [], codes, get_or}, List.{flat_map}, Fmt.{decimal}}
use Rattle.fm_circuit.specs.{declared.wire.Wire.{Wire}, declared.circuit.Driver.{Driver}, Widths.{width_of, wires}, Processor.{driver_of}}
use Rattle.fm_circuit.specs.Board.{registers}
use Rattle.fm_circuit.specs.declared.wire.Wire.TheVariants as w
use Rattle.fm_circuit.specs.declared.circuit.Driver.TheVariants as d
use Rattle.fm_gates.specs.Gates.{Gate, Off, On, WireBit, CarryBit, RegisterBit, InputBit, FileBit, Reset, Inverse, Both, Either, Differ}
use Rattle.fm_gates.specs.Gates.{Pick, driver_gate, next_gate, carry_gate, file_gate, write_gate}
use Rattle.fm_verilog.specs.{WireNames.{name_of}, VerilogText.{port_name, clock_text, declaration_text}}

-- the texts of the numbers below one, in their order
unfoldable pub below : (ℕ → List ℕ) → ℕ → List ℕ
below text zero = []
below text (suc i) = below text i ++ text i

-- `ir[5]`
abbrev pub indexed : List ℕ → ℕ → List ℕ
indexed name i = name ++ codes "[" ++ decimal i ++ codes "]"

-- `sum_carries[5]`
abbrev pub carry_text : Wire → ℕ → List ℕ
carry_text wire i = indexed (name_of wire ++ codes "_carries") i

-- `file_3[5]`
abbrev pub file_text : ℕ → ℕ → List ℕ
file_text r i = indexed (codes "file_" ++ decimal r) i

-- a bit of an input, of which only the first is a word
abbrev pub input_text : ℕ → ℕ → List ℕ
input_text zero i = indexed (port_name 0) i
input_text number i = port_name number

-- two gates with an operator between them
abbrev pub binary_text : List ℕ → List ℕ → List ℕ → List ℕ
binary_text operator g h = codes "(" ++ g ++ operator ++ h ++ codes ")"

-- a gate as an expression; a register's bit is that of its wire
unfoldable pub gate_text : Gate → List ℕ
gate_text Off = codes "1'd0"
gate_text On = codes "1'd1"
gate_text (WireBit wire i) = indexed (name_of wire) i
gate_text (CarryBit wire i) = carry_text wire i
gate_text (RegisterBit number i) = indexed (name_of (get_or registers number w.Phase)) i
gate_text (InputBit number i) = input_text number i
gate_text (FileBit r i) = file_text r i
gate_text Reset = codes "reset"
gate_text (Inverse g) = codes "~" ++ gate_text g
gate_text (Both g h) = binary_text (codes " & ") (gate_text g) (gate_text h)
gate_text (Either g h) = binary_text (codes " | ") (gate_text g) (gate_text h)
gate_text (Differ g h) = binary_text (codes " ^ ") (gate_text g) (gate_text h)
gate_text (Pick by g h) = codes "(" ++ gate_text by ++ codes " ? " ++ gate_text h ++ codes " : " ++ gate_text g ++ codes ")"

-- what a bit of a wire is, or what it takes at the end of a cycle where the wire is a register's
unfoldable pub line_gate : Wire → Driver → ℕ → Gate
line_gate wire (d.Register number reset next) i = next_gate (d.Register number reset next) i
line_gate wire driver i = driver_gate wire driver i

-- the line of a bit of a wire: a flip-flop where it is a register's
abbrev pub target_text : Driver → List ℕ
target_text (d.Register number reset next) = clock_text
target_text driver = codes "assign "

abbrev pub gets_text : Driver → List ℕ
gets_text (d.Register number reset next) = codes " <= "
gets_text driver = codes " = "

abbrev pub bit_line : Wire → ℕ → List ℕ
bit_line wire i =
    target_text (driver_of wire) ++ indexed (name_of wire) i ++ gets_text (driver_of wire) ++ gate_text (line_gate wire (driver_of wire) i)
    ++ codes ";\n"

-- the line of a carry, where the wire is a sum
unfoldable pub carry_line : Wire → Driver → ℕ → List ℕ
carry_line wire (d.Add p q carry) i =
    codes "assign " ++ carry_text wire i ++ codes " = " ++ gate_text (carry_gate wire (d.Add p q carry) i) ++ codes ";\n"
carry_line wire driver i = []

abbrev pub bit_lines : Wire → ℕ → List ℕ
bit_lines wire i = bit_line wire i ++ carry_line wire (driver_of wire) i

abbrev pub wire_lines : Wire → List ℕ
wire_lines wire = below (bit_lines wire) (width_of wire)

-- the line of a bit of the register file
abbrev pub file_line : ℕ → ℕ → List ℕ
file_line r i = clock_text ++ file_text r i ++ codes " <= " ++ gate_text (file_gate r i) ++ codes ";\n"

abbrev pub word_lines : ℕ → List ℕ
word_lines r = below (file_line r) 32

-- `wire [32:0] sum_carries;`, where the wire is a sum
unfoldable pub carries_declared : Wire → Driver → List ℕ
carries_declared wire (d.Add p q carry) =
    codes "wire [" ++ decimal (width_of wire - 1) ++ codes ":0] " ++ name_of wire ++ codes "_carries;\n"
carries_declared wire driver = []

-- the lines that declare a wire
abbrev pub declared_text : Wire → List ℕ
declared_text wire = declaration_text wire ++ carries_declared wire (driver_of wire)

-- the ports, and the words of the register file, which begin with a file's in a simulation
unfoldable pub head_text : List ℕ
head_text =
    codes "module fm9001 #(parameter REGISTERS = \"registers.hex\") (\n"
    ++ codes "  input clk, input reset, input [31:0] bus_read, input bus_outside,\n"
    ++ codes "  output [31:0] bus_address, output [31:0] bus_data, output bus_write);\n"

-- a word of the register file
abbrev pub word_declared : ℕ → List ℕ
word_declared r = codes "reg [31:0] file_" ++ decimal r ++ codes ";\n"

-- its first value in a simulation
abbrev pub word_begun : ℕ → List ℕ
word_begun r = codes "  file_" ++ decimal r ++ codes " = start[" ++ decimal r ++ codes "];\n"

unfoldable pub begin_text : List ℕ
begin_text =
    codes "`ifndef SYNTHESIS\n"
    ++ codes "reg [31:0] start [0:15];\n"
    ++ codes "initial begin\n"
    ++ codes "  $readmemh(REGISTERS, start);\n"

-- and the words as an array
unfoldable pub begun_text : List ℕ
begun_text = codes "end\n" ++ codes "wire [31:0] file [0:15];\n"

-- how the line of a word of it begins
unfoldable pub element_text : List ℕ
element_text = codes "assign file["

-- a word of it
abbrev pub word_shown : ℕ → List ℕ
word_shown r = element_text ++ decimal r ++ codes "] = file_" ++ decimal r ++ codes ";\n"

-- what goes out
unfoldable pub tail_text : List ℕ
tail_text =
    codes "assign bus_address = " ++ name_of w.Address ++ codes ";\n"
    ++ codes "assign bus_data = " ++ name_of w.Out ++ codes ";\n"
    ++ codes "assign bus_write = " ++ gate_text write_gate ++ codes ";\n"
    ++ codes "endmodule\n"

-- the whole text
unfoldable pub netlist_text : List ℕ
netlist_text =
    head_text ++ below word_declared 16 ++ begin_text ++ below word_begun 16 ++ begun_text
    ++ below word_shown 16 ++ codes "`endif\n" ++ flat_map declared_text wires
    ++ flat_map wire_lines wires ++ below word_lines 16 ++ tail_text
