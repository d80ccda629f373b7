-- The widths that the module declares are those of the wires.
use Rattle.std.{proofs.Common.{◌≡◌, ℕ, List, [], ◌∷◌, ◌++◌, refl, ap, ◌∙◌, codes}, specs.Prelude.{map, find, option_map, unwrap_or, bytes_eq}}
use Rattle.std.specs.List.{flat_map}
use Rattle.fm_circuit.{specs.declared.wire.Wire.Wire, specs.declared.circuit.Driver.Driver, specs.Widths.{width_of, wires}, specs.Processor.driver_of}
use Rattle.fm_circuit.specs.declared.wire.Wire.TheVariants as w
use Rattle.fm_circuit.specs.declared.circuit.Driver.TheVariants as d
use Rattle.fm_verilog.specs.WireNames.{name_of}
use Rattle.verilog_meaning.{specs.Syntax.Signal, specs.Meaning.{declared, width_in, words_in}, specs.ProcessorModule.{signal_of, declaration_of, driving_of}}
use Rattle.verilog_meaning.{specs.ProcessorModule.{declarations, drivings, file_items, out_items, module_of, processor}, proofs.ItemLaws.items_mapped}

one : (wire : Wire) (driver : Driver) → declared (declaration_of wire driver) ≡ signal_of wire ∷ []
one wire (d.Register number reset next) = refl
one wire driver = refl

none : (wire : Wire) (driver : Driver) → declared (driving_of wire driver) ≡ []
none wire (d.Register number reset next) = refl
none wire driver = refl

ones : (ws : List Wire) → flat_map declared (declarations ws) ≡ map signal_of ws
ones [] = refl
ones (wire ∷ ws) = λ j. one wire (driver_of wire) j ++ ones ws j

nones : (ws : List Wire) → flat_map declared (drivings ws) ≡ []
nones [] = refl
nones (wire ∷ ws) = λ j. none wire (driver_of wire) j ++ nones ws j

-- the signals of a module: its ports, the register file, and the wires
abbrev signals : List Wire → List Signal
signals ws =
    (module_of ws).inputs ++ (module_of ws).outputs ++ (flat_map declared file_items ++ map signal_of ws ++ [] ++ flat_map declared out_items)

signals_are : (ws : List Wire) → (module_of ws).inputs ++ (module_of ws).outputs ++ flat_map declared (module_of ws).items ≡ signals ws
signals_are ws =
    ap (λ t. (module_of ws).inputs ++ (module_of ws).outputs ++ t)
    (items_mapped declared ws ∙ (λ j. flat_map declared file_items ++ ones ws j ++ nones ws j ++ flat_map declared out_items))

-- the width of a name among some signals
abbrev width_among : List Signal → List ℕ → ℕ
width_among among name = unwrap_or (option_map (λ s. s.width) (find (λ s. bytes_eq s.name name) among)) 0

looked_up : (name : List ℕ) → width_in processor name ≡ width_among (signals wires) name
unfolding processor
looked_up name = ap (λ t. width_among t name) (signals_are wires)

found : (wire : Wire) → width_among (signals wires) (name_of wire) ≡ width_of wire
found w.Phase = refl
found wire = refl

pub width_is : (wire : Wire) → width_in processor (name_of wire) ≡ width_of wire
width_is wire = looked_up (name_of wire) ∙ found wire

pub file_width : width_in processor (codes "file") ≡ 32
file_width = looked_up (codes "file")

pub address_width : width_in processor (codes "bus_address") ≡ 32
address_width = looked_up (codes "bus_address")

pub data_width : width_in processor (codes "bus_data") ≡ 32
data_width = looked_up (codes "bus_data")

pub write_width : width_in processor (codes "bus_write") ≡ 1
write_width = looked_up (codes "bus_write")

count_of : (ws : List Wire) → words_in (module_of ws).items (codes "file") ≡ 16
count_of ws = refl

pub file_count : words_in processor.items (codes "file") ≡ 16
unfolding processor
file_count = count_of wires
