-- The printed text is that of the module.
use Rattle.std.proofs.Common.{◌≡◌, ℕ, zero, suc, ◌+◌, ◌-◌, List, [], ◌∷◌, ◌++◌, refl, sym, ap, ◌∙◌, append_assoc, false, nat_lt, codes, if◌then◌else◌}
use Rattle.std.{specs.Prelude.map, specs.List.flat_map, specs.Fmt.{decimal, digits}}
use Rattle.fm_circuit.specs.declared.wire.Wire as wires
use Rattle.fm_circuit.{specs.declared.circuit.Pin.Pin, specs.declared.circuit.Pin.TheVariants.{Whole, Bits, Constant}, specs.declared.circuit.Driver.Driver}
use Rattle.fm_circuit.{specs.Widths.{width_of, wires as all_wires}, specs.Circuit.pin_width, specs.Processor.driver_of}
use Rattle.fm_circuit.specs.declared.circuit.Driver.TheVariants as d
use Rattle.fm_verilog.{specs.WireNames.name_of, specs.VerilogText.{constant_text, pin_text, widened_text, row_text, rows_text, expression_text, clock_text}}
use Rattle.fm_verilog.specs.VerilogText.{at_reset_text, clocked_text, assigned_text, target_text, kind_text, declaration_text, driving_text, head_text}
use Rattle.fm_verilog.specs.VerilogText.{tail_text, verilog_text}
use Rattle.verilog_meaning.{specs.Syntax.{Item, operand_text, written, item_text, module_text}, specs.ProcessorModule.{pin_expression, rows_expression}}
use Rattle.verilog_meaning.specs.ProcessorModule.{widened, expression_of, declaration_of, driving_of, file_items, out_items, module_of, processor}
use Rattle.verilog_meaning.{specs.Laws.Written, proofs.ItemLaws.items_mapped}

pin_written : (p : Pin) → written (pin_expression p) ≡ pin_text p
pin_written (Whole wire) = refl
pin_written (Bits wire high low) = refl
pin_written (Constant width value) = refl

-- a pin has no operator, so it is never in brackets
pin_operand : (n : ℕ) (p : Pin) → nat_lt 9 n ≡ false → operand_text n (pin_expression p) (written (pin_expression p)) ≡ pin_text p
pin_operand n (Whole wire) h = ap (λ t. if t then codes "(" ++ pin_text (Whole wire) ++ codes ")" else pin_text (Whole wire)) h
pin_operand n (Bits wire high low) h =
    ap (λ t. if t then codes "(" ++ pin_text (Bits wire high low) ++ codes ")" else pin_text (Bits wire high low)) h
pin_operand n (Constant width value) h =
    ap (λ t. if t then codes "(" ++ pin_text (Constant width value) ++ codes ")" else pin_text (Constant width value)) h

zeros : (width : ℕ) → decimal width ++ codes "'d" ++ decimal 0 ++ codes ", " ≡ decimal width ++ codes "'d0, "
unfolding digits
zeros width = append_assoc (decimal width ++ codes "'d") (codes "0") (codes ", ") ∙ append_assoc (decimal width) (codes "'d") (codes "0, ")

widened_written : (width : ℕ) (p : Pin) → written (widened width p) ≡ widened_text width p
widened_written width p = λ j. codes "{" ++ (zeros width j ++ pin_written p j ++ codes "}")

last_operand : (by : Pin) (n : ℕ) (pins : List Pin) →
    operand_text 1 (rows_expression by n pins) (written (rows_expression by n pins)) ≡ written (rows_expression by n pins)
last_operand by n [] = refl
last_operand by n (p ∷ pins) = refl

rows_written : (by : Pin) (n : ℕ) (pins : List Pin) → written (rows_expression by n pins) ≡ rows_text by n pins ++ codes "0"
unfolding rows_text digits
rows_written by n [] = refl
rows_written by n (p ∷ pins) =
    (λ j. pin_operand 6 by refl j ++ codes " == " ++ constant_text (pin_width by) n ++ codes " ? " ++ pin_operand 2 p refl j ++ codes " : " ++
    (last_operand by (n + 1) pins ∙ rows_written by (n + 1) pins) j)
    ∙ sym (append_assoc (row_text by n p) (rows_text by (n + 1) pins) (codes "0"))

expression_written : (driver : Driver) → written (expression_of driver) ≡ expression_text driver
unfolding expression_text
expression_written (d.Register number reset next) = pin_written next
expression_written (d.Input zero) = refl
expression_written (d.Input (suc n)) = refl
expression_written (d.FileRead number) = ap (λ t. codes "file[" ++ t ++ codes "]") (pin_written number)
expression_written (d.Not p) = ap (λ t. codes "~" ++ t) (pin_operand 9 p refl)
expression_written (d.And p q) = λ j. pin_operand 5 p refl j ++ codes " & " ++ pin_operand 6 q refl j
expression_written (d.Or p q) = λ j. pin_operand 3 p refl j ++ codes " | " ++ pin_operand 4 q refl j
expression_written (d.Xor p q) = λ j. pin_operand 4 p refl j ++ codes " ^ " ++ pin_operand 5 q refl j
expression_written (d.Join p q) = λ j. codes "{" ++ pin_written p j ++ codes ", " ++ pin_written q j ++ codes "}"
expression_written (d.Add p q carry) =
    λ j. widened_written 1 p j ++ codes " + " ++ widened_written 1 q j ++ codes " + " ++ widened_written (pin_width p) carry j
expression_written (d.Equal p q) = λ j. pin_operand 6 p refl j ++ codes " == " ++ pin_operand 7 q refl j
expression_written (d.Two by among) = rows_written by 0 among
expression_written (d.Four by among) = rows_written by 0 among
expression_written (d.Eight by among) = rows_written by 0 among
expression_written (d.Sixteen by among) = rows_written by 0 among

declaration_written : (wire : wires.Wire) (driver : Driver) →
    item_text (declaration_of wire driver)
    ≡ kind_text driver ++ codes " [" ++ decimal (width_of wire - 1) ++ codes ":0] " ++ name_of wire ++ codes ";\n"
declaration_written wire (d.Register number reset next) = refl
declaration_written wire driver = refl

regroup : (a p q k c r : List ℕ) → a ++ p ++ (q ++ k ++ c ++ r) ≡ a ++ (p ++ q) ++ k ++ c ++ r
regroup a p q k c r =
    sym (append_assoc (a ++ p) (q ++ k ++ c) r)
    ∙ ap (λ t. t ++ r)
    (sym (append_assoc (a ++ p) (q ++ k) c) ∙ ap (λ t. t ++ c) (sym (append_assoc (a ++ p) q k) ∙ ap (λ t. t ++ k) (append_assoc a p q)))

driving_written : (wire : wires.Wire) (driver : Driver) →
    item_text (driving_of wire driver) ≡ target_text wire driver ++ expression_text driver ++ codes ";\n"
unfolding expression_text clock_text at_reset_text
driving_written wire (d.Register number reset next) =
    ap (λ t. t ++ codes ";\n")
    (regroup (clock_text ++ name_of wire) (codes " <= ") (codes "reset ? ") (constant_text (width_of wire) reset) (codes " : ")
    (operand_text 1 (pin_expression next) (written (pin_expression next)))
    ∙ ap (λ t. clocked_text wire reset ++ t) (pin_operand 1 next refl))
driving_written wire driver = ap (λ t. assigned_text wire ++ t ++ codes ";\n") (expression_written driver)

lines : (f : wires.Wire → Item) (g : wires.Wire → List ℕ) → ((wire : wires.Wire) → item_text (f wire) ≡ g wire) → (ws : List wires.Wire) →
    flat_map item_text (map f ws) ≡ flat_map g ws
lines f g same [] = refl
lines f g same (wire ∷ ws) = λ j. same wire j ++ lines f g same ws j

whole : (h f a b o e : List ℕ) → h ++ (f ++ a ++ b ++ o) ++ e ≡ h ++ f ++ a ++ b ++ (o ++ e)
whole h f a b o e =
    ap (λ t. t ++ e)
    (sym (append_assoc h (f ++ a ++ b) o)
    ∙ ap (λ t. t ++ o) (sym (append_assoc h (f ++ a) b) ∙ ap (λ t. t ++ b) (sym (append_assoc h f a))))
    ∙ append_assoc (h ++ f ++ a ++ b) o e

-- the ports, before the items
before_items : List ℕ
before_items =
    codes "module fm9001 #(parameter REGISTERS = \"registers.hex\") (\n"
    ++ codes "  input clk, input reset, input [31:0] bus_read, input bus_outside,\n"
    ++ codes "  output [31:0] bus_address, output [31:0] bus_data, output bus_write);\n"

text_of : (ws : List wires.Wire) → head_text ++ flat_map declaration_text ws ++ flat_map driving_text ws ++ tail_text ≡ module_text (module_of ws)
unfolding head_text tail_text before_items digits
text_of ws =
    sym ((λ j. before_items ++ items j ++ codes "endmodule\n")
    ∙ whole before_items (flat_map item_text file_items) (flat_map declaration_text ws) (flat_map driving_text ws) (flat_map item_text out_items)
    (codes "endmodule\n"))
  where
    items :
        flat_map item_text (module_of ws).items
        ≡ flat_map item_text file_items ++ flat_map declaration_text ws ++ flat_map driving_text ws ++ flat_map item_text out_items
    items =
        items_mapped item_text ws
        ∙ (λ j. flat_map item_text file_items
        ++ lines (λ wire. declaration_of wire (driver_of wire)) declaration_text (λ wire. declaration_written wire (driver_of wire)) ws j
        ++ lines (λ wire. driving_of wire (driver_of wire)) driving_text (λ wire. driving_written wire (driver_of wire)) ws j
        ++ flat_map item_text out_items)

pub written_is : Written
unfolding verilog_text processor
written_is = text_of all_wires
