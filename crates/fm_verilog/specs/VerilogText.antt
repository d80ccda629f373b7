-- The processor as Verilog text.
use Rattle.std.specs.{Prelude.{ℕ, zero, ◌+◌, ◌-◌, List, [], ◌∷◌, ◌++◌, codes}, List.{flat_map}, Fmt.{decimal}}
use Rattle.fm_circuit.specs.{declared.wire.Wire.{Wire}, declared.circuit.Pin.{Pin}, declared.circuit.Pin.TheVariants.{Whole, Bits}}
use Rattle.fm_circuit.specs.{declared.circuit.Pin.TheVariants.{Constant}, declared.circuit.Driver.{Driver}}
use Rattle.fm_circuit.specs.declared.circuit.Driver.TheVariants.{Register, Input, FileRead, Not, And, Or, Xor, Join, Add, Equal, Two, Four}
use Rattle.fm_circuit.specs.{declared.circuit.Driver.TheVariants.{Eight, Sixteen}, Widths.{width_of, wires}, Circuit.{pin_width}}
use Rattle.fm_circuit.specs.Processor.{driver_of}
use Rattle.fm_verilog.specs.WireNames.{name_of}

-- `32'd5`
abbrev pub constant_text : ℕ → ℕ → List ℕ
constant_text width value = decimal width ++ codes "'d" ++ decimal value

-- `ir`, `ir[27:24]` or `4'd8`
abbrev pub pin_text : Pin → List ℕ
pin_text (Whole wire) = name_of wire
pin_text (Bits wire high low) = name_of wire ++ codes "[" ++ decimal high ++ codes ":" ++ decimal low ++ codes "]"
pin_text (Constant width value) = constant_text width value

-- a pin with zeros above it: `{1'd0, left}`
abbrev pub widened_text : ℕ → Pin → List ℕ
widened_text width pin = codes "{" ++ decimal width ++ codes "'d0, " ++ pin_text pin ++ codes "}"

-- `mode == 2'd1 ? own : `
abbrev pub row_text : Pin → ℕ → Pin → List ℕ
row_text by number pin = pin_text by ++ codes " == " ++ constant_text (pin_width by) number ++ codes " ? " ++ pin_text pin ++ codes " : "

-- a row for each of several pins, from a number on
unfoldable pub rows_text : Pin → ℕ → List Pin → List ℕ
rows_text by number [] = []
rows_text by number (pin ∷ pins) = row_text by number pin ++ rows_text by (number + 1) pins

-- one of several pins by a number, and 0 where there is none
abbrev pub choice_text : Pin → List Pin → List ℕ
choice_text by among = rows_text by 0 among ++ codes "0"

-- the port of an input
abbrev pub port_name : ℕ → List ℕ
port_name zero = codes "bus_read"
port_name number = codes "bus_outside"

-- two pins with an operator between them
abbrev pub between : List ℕ → Pin → Pin → List ℕ
between operator p q = pin_text p ++ operator ++ pin_text q

-- what drives a wire, as an expression
unfoldable pub expression_text : Driver → List ℕ
expression_text (Register number reset next) = pin_text next
expression_text (Input number) = port_name number
expression_text (FileRead number) = codes "file[" ++ pin_text number ++ codes "]"
expression_text (Not p) = codes "~" ++ pin_text p
expression_text (And p q) = between (codes " & ") p q
expression_text (Or p q) = between (codes " | ") p q
expression_text (Xor p q) = between (codes " ^ ") p q
expression_text (Join p q) = codes "{" ++ pin_text p ++ codes ", " ++ pin_text q ++ codes "}"
expression_text (Add p q carry) = widened_text 1 p ++ codes " + " ++ widened_text 1 q ++ codes " + " ++ widened_text (pin_width p) carry
expression_text (Equal p q) = between (codes " == ") p q
expression_text (Two by among) = choice_text by among
expression_text (Four by among) = choice_text by among
expression_text (Eight by among) = choice_text by among
expression_text (Sixteen by among) = choice_text by among

-- at each rising edge of the clock
unfoldable pub clock_text : List ℕ
clock_text = codes "always @(posedge clk) "

-- takes a value at a reset
unfoldable pub at_reset_text : List ℕ
at_reset_text = codes " <= reset ? "

-- `always @(posedge clk) ir <= reset ? 32'd0 : `
abbrev pub clocked_text : Wire → ℕ → List ℕ
clocked_text wire reset = clock_text ++ name_of wire ++ at_reset_text ++ constant_text (width_of wire) reset ++ codes " : "

-- `assign sum = `
abbrev pub assigned_text : Wire → List ℕ
assigned_text wire = codes "assign " ++ name_of wire ++ codes " = "

-- the beginning of the line that drives a wire
abbrev pub target_text : Wire → Driver → List ℕ
target_text wire (Register number reset next) = clocked_text wire reset
target_text wire driver = assigned_text wire

-- `reg` or `wire`
abbrev pub kind_text : Driver → List ℕ
kind_text (Register number reset next) = codes "reg"
kind_text driver = codes "wire"

-- `reg [31:0] ir;`
abbrev pub declaration_text : Wire → List ℕ
declaration_text wire =
    kind_text (driver_of wire) ++ codes " [" ++ decimal (width_of wire - 1) ++ codes ":0] " ++ name_of wire ++ codes ";\n"

-- the line that drives a wire
abbrev pub driving_text : Wire → List ℕ
driving_text wire = target_text wire (driver_of wire) ++ expression_text (driver_of wire) ++ codes ";\n"

-- the ports and the register file
unfoldable pub head_text : List ℕ
head_text =
    codes "module fm9001 #(parameter REGISTERS = \"registers.hex\") (\n"
    ++ codes "  input clk, input reset, input [31:0] bus_read, input bus_outside,\n"
    ++ codes "  output [31:0] bus_address, output [31:0] bus_data, output bus_write);\n"
    ++ codes "reg [31:0] file [0:15];\n"
    ++ codes "initial $readmemh(REGISTERS, file);\n"

-- what is written to the register file, and what goes out; at a reset nothing is written
unfoldable pub tail_text : List ℕ
tail_text =
    codes "always @(posedge clk) if (file_write && !reset) file[number] <= file_data;\n"
    ++ codes "assign bus_address = address;\n"
    ++ codes "assign bus_data = out;\n"
    ++ codes "assign bus_write = memory_write && !reset;\n"
    ++ codes "endmodule\n"

-- the whole text: a declaration for each wire, and then the line that drives it
unfoldable pub verilog_text : List ℕ
verilog_text = head_text ++ flat_map declaration_text wires ++ flat_map driving_text wires ++ tail_text
