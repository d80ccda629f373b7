-- The image of a source.
use Rattle.std.specs.{Prelude.{ℕ, suc, ◌+◌, ◌-◌, List, [], ◌∷◌, map, Bool, Some, if◌then◌else◌}, List.{list_all}}
use Rattle.stack_text.specs.{declared.shape.Shape.{Shape}, Values.{item_count}}
use Rattle.fm_image.specs.{declared.procedure.Mark.{Mark}, declared.procedure.VarInfo.{VarInfo}, declared.slot.Slot.{Slot}, Image.{ImageOf}}
use Rattle.fm_image.specs.{Limits.{Tables, no_tables, is_place}, Bare.{bare_image}, Procedure.{ProcedureOf}}
use Rattle.display_maps.specs.Reading.{space_name}
use Rattle.piton_check.specs.Instruction.{SystemView}
use Rattle.piton_semantics.specs.Placed.{placed, address_of_place, areas_start, end_of}
use Rattle.piton_linker.specs.Layouts.{trimmed}
use Rattle.gypsy_syntax.specs.{declared.literal.Decl.{Decl}, Programs.{Program, proc_at, shapes_of}, Resolved.{condition_names, shape_of}}
use Rattle.gypsy_syntax.specs.{Resolved.{program_of, variable_names}, Sources.{ProcOf, SourceOf}}
use Rattle.gypsy_space.specs.Needs.{StackSizes}
use Rattle.gypsy_codegen.specs.{declared.marking.MarkAt.{MarkAt}, Generated.{generated_view, offset}, Marks.{marks_of}}
use Rattle.stack_build.specs.Formals.{shown_formals, shown_conditions}

-- 1. What it tells of its source at each mark.

-- variables from number b on, each with its offset in the frame
abbrev pub variable_infos : (ℕ → ℕ) → ℕ → List (List ℕ) → List Shape → List VarInfo
variable_infos offset b [] shapes = []
variable_infos offset b (name ∷ names) [] = []
variable_infos offset b (name ∷ names) (shape ∷ shapes) =
    record { name = name; shape = shape; offset = offset b } ∷ variable_infos offset (b + 1) names shapes

-- a procedure: spaceerror, its formal and then its local conditions; its formals and then its locals
abbrev pub procedure_info : Program → ℕ → ProcOf → ProcedureOf
procedure_info q p proc = record {
  name = proc.name.name;
  conditions = space_name ∷ condition_names proc;
  variables = variable_infos (offset q p) 0 (variable_names proc) (shapes_of (proc_at q p));
}

abbrev pub procedure_infos : Program → ℕ → List ProcOf → List ProcedureOf
procedure_infos q p [] = []
procedure_infos q p (proc ∷ procs) = procedure_info q p proc ∷ procedure_infos q (suc p) procs

-- a mark by its address
abbrev pub mark_info : SystemView → MarkAt → Mark
mark_info system m = record { address = address_of_place system m.program m.at; procedure = m.program; place = m.place }

-- Whether an image file has room for the places of all marks: so it is for the source of each text of at most 2^20 bytes.
abbrev pub places_fit : Program → Bool
places_fit q = list_all (λ m. is_place m.place) (marks_of q)

-- the procedures, and the marks with their addresses; none where the file has no room for a place
abbrev pub source_tables : SourceOf → SystemView → Tables
source_tables source system =
    let q = program_of source in
    if places_fit q then record { procedures = procedure_infos q 0 source.procs; marks = map (mark_info system) (marks_of q) }
    else no_tables

-- 2. The image.

-- a slot for each formal: its first item is at the address, its other items below that, and the next formal below them
abbrev pub slots_from : ℕ → List Decl → List Slot
slots_from address [] = []
slots_from address (d ∷ ds) =
    record { name = d.name.name; shape = shape_of d.shape; address = address } ∷ slots_from (address - item_count (shape_of d.shape)) ds

-- slots for main's formals, of their names and shapes, where there is no memory
abbrev pub formal_slots : SourceOf → List Slot
formal_slots s = slots_from 0 (shown_formals s)

-- the image of a placed system, which tells of no source: it has no condition word, no slot, no procedure and no mark
abbrev pub linked_image : SystemView → ImageOf
linked_image system =
    bare_image system.base (placed system).size (placed system).final_pc (placed system).registers (trimmed (placed system).words)

-- the image of a placed system whose stack has these formals at its bottom, and whose first area has the number of its condition
abbrev pub image_with : List Decl → List (List ℕ) → Tables → SystemView → ImageOf
image_with formals conditions tables system = record (linked_image system) {
  condition_address = Some (areas_start system);
  conditions = conditions;
  slots = slots_from (end_of system - 1) formals;
  procedures = tables.procedures;
  marks = tables.marks;
}

-- the image of a source whose system is this
abbrev pub image_on : SourceOf → SystemView → ImageOf
image_on source system = image_with (shown_formals source) (shown_conditions source) (source_tables source system) system

-- the image of a source, one for all values of main's formals
unfoldable pub image_of : SourceOf → StackSizes → ℕ → ImageOf
image_of source sizes base = image_on source (generated_view (program_of source) sizes base)
