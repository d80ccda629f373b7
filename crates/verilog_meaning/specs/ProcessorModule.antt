-- The processor's circuit as a module of Verilog.
use Rattle.std.specs.Prelude.{ℕ, ◌+◌, List, [], ◌∷◌, ◌++◌, map, codes}
use Rattle.fm_circuit.specs.declared.wire.Wire as wires
use Rattle.fm_circuit.specs.{declared.circuit.Pin.{Pin}, declared.circuit.Pin.TheVariants.{Whole, Bits, Constant}}
use Rattle.fm_circuit.specs.{declared.circuit.Driver.{Driver}, Widths.{width_of, wires as all_wires}, Circuit.{pin_width}}
use Rattle.fm_circuit.specs.Processor.{driver_of}
use Rattle.fm_circuit.specs.declared.circuit.Driver.TheVariants as d
use Rattle.fm_verilog.specs.{WireNames.{name_of}, VerilogText.{port_name}}
use Rattle.verilog_meaning.specs.Syntax as v

-- a pin
abbrev pub pin_expression : Pin → v.Expression
pin_expression (Whole wire) = v.Named (name_of wire)
pin_expression (Bits wire high low) = v.Part (name_of wire) high low
pin_expression (Constant width value) = v.Number width value

-- one of several pins, by a number, from a number on
abbrev pub rows_expression : Pin → ℕ → List Pin → v.Expression
rows_expression by number [] = v.Integer 0
rows_expression by number (pin ∷ pins) =
    v.Choice (v.Equal (pin_expression by) (v.Number (pin_width by) number)) (pin_expression pin) (rows_expression by (number + 1) pins)

-- a pin with so many zeros above it
abbrev pub widened : ℕ → Pin → v.Expression
widened width pin = v.Join (v.Number width 0) (pin_expression pin)

-- what drives a wire
abbrev pub expression_of : Driver → v.Expression
expression_of (d.Register number reset next) = pin_expression next
expression_of (d.Input number) = v.Named (port_name number)
expression_of (d.FileRead number) = v.Word (codes "file") (pin_expression number)
expression_of (d.Not p) = v.Inverse (pin_expression p)
expression_of (d.And p q) = v.And (pin_expression p) (pin_expression q)
expression_of (d.Or p q) = v.Or (pin_expression p) (pin_expression q)
expression_of (d.Xor p q) = v.Xor (pin_expression p) (pin_expression q)
expression_of (d.Join p q) = v.Join (pin_expression p) (pin_expression q)
expression_of (d.Add p q carry) = v.Sum (v.Sum (widened 1 p) (widened 1 q)) (widened (pin_width p) carry)
expression_of (d.Equal p q) = v.Equal (pin_expression p) (pin_expression q)
expression_of (d.Two by among) = rows_expression by 0 among
expression_of (d.Four by among) = rows_expression by 0 among
expression_of (d.Eight by among) = rows_expression by 0 among
expression_of (d.Sixteen by among) = rows_expression by 0 among

-- a wire's name and width
abbrev pub signal_of : wires.Wire → v.Signal
signal_of wire = record { name = name_of wire; width = width_of wire }

-- its declaration
abbrev pub declaration_of : wires.Wire → Driver → v.Item
declaration_of wire (d.Register number reset next) = v.Register (signal_of wire)
declaration_of wire driver = v.Wire (signal_of wire)

-- the line that drives it
abbrev pub driving_of : wires.Wire → Driver → v.Item
driving_of wire (d.Register number reset next) =
    v.Clocked (name_of wire) (v.Choice (v.Named (codes "reset")) (v.Number (width_of wire) reset) (pin_expression next))
driving_of wire driver = v.Assign (name_of wire) (expression_of driver)

abbrev pub no_reset : v.Expression
no_reset = v.Not (v.Named (codes "reset"))

-- the register file, and what it begins with
abbrev pub register_file : v.Item
register_file = v.Memory (record { name = codes "file"; width = 32 }) 16

abbrev pub first_words : v.Item
first_words = v.Begins (codes "REGISTERS") (codes "file")

-- what is written to it
abbrev pub file_line : v.Item
file_line =
    v.Stored (v.Both (v.Named (codes "file_write")) no_reset) (codes "file") (v.Named (codes "number")) (v.Named (codes "file_data"))

-- what goes out
abbrev pub address_line : v.Item
address_line = v.Assign (codes "bus_address") (v.Named (codes "address"))

abbrev pub data_line : v.Item
data_line = v.Assign (codes "bus_data") (v.Named (codes "out"))

abbrev pub write_line : v.Item
write_line = v.Assign (codes "bus_write") (v.Both (v.Named (codes "memory_write")) no_reset)

-- the lines before those of the wires, and behind them
abbrev pub file_items : List v.Item
file_items = register_file ∷ first_words ∷ []

abbrev pub out_items : List v.Item
out_items = file_line ∷ address_line ∷ data_line ∷ write_line ∷ []

-- the lines that declare wires, and those that drive them
abbrev pub declarations : List wires.Wire → List v.Item
declarations ws = map (λ wire. declaration_of wire (driver_of wire)) ws

abbrev pub drivings : List wires.Wire → List v.Item
drivings ws = map (λ wire. driving_of wire (driver_of wire)) ws

-- the module of some wires
abbrev pub module_of : List wires.Wire → v.Module
module_of ws =
    record {
      name = codes "fm9001";
      parameter = codes "REGISTERS";
      file = codes "registers.hex";
      inputs =
          record { name = codes "reset"; width = 1 } ∷ record { name = codes "bus_read"; width = 32 }
          ∷ record { name = codes "bus_outside"; width = 1 } ∷ [];
      outputs =
          record { name = codes "bus_address"; width = 32 } ∷ record { name = codes "bus_data"; width = 32 }
          ∷ record { name = codes "bus_write"; width = 1 } ∷ [];
      items = file_items ++ declarations ws ++ drivings ws ++ out_items;
    }

-- the processor
unfoldable pub processor : v.Module
processor = module_of all_wires
