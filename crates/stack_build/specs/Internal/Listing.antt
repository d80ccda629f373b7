-- Internal: the procedures and marks of an image, as the code lists them.
use Rattle.std.specs.{Prelude.{◌≡◌, ◌≤◌, ℕ, ◌+◌, ◌-◌, Bool, List, ◌∷◌, length, map, slice_get, nat_lt, if◌then◌else◌}, Option.{unwrap_or}}
use Rattle.fm_words.specs.WindowLimit.{most_window}
use Rattle.stack_text.specs.{SharedLimits.{most_declared, most_procedures}, Options.{◌>>=◌}, declared.shape.Shape.{Shape}, Values.{ValueOf}}
use Rattle.fm_image.specs.{declared.procedure.Mark.{Mark}, declared.procedure.VarInfo.{VarInfo}, Procedure.{ProcedureOf}}
use Rattle.display_maps.specs.Reading.{space_name}
use Rattle.piton_check.specs.Instruction.{SystemView}
use Rattle.gypsy_syntax.specs.{ProgramFits.{Each}, Programs.{shapes_of}, Resolved.{program_of}, Sources.{ProcOf, SourceOf}}
use Rattle.gypsy_space.specs.{declared.program.Procedure.{Procedure}, declared.program.Program.{Program}, Needs.{StackSizes}}
use Rattle.gypsy_space.specs.Nodes.{declared_names, seen_proc, seen_proc_names}
use Rattle.gypsy_codegen.specs.{declared.marking.MarkAt.{MarkAt}, Acceptable.{total_words}, Generated.{generated_view}}
use Rattle.stack_build.specs.{declared.tables.FrameOrder.{FrameOrder}, Image.{variable_infos}}

-- the offset of a variable in a frame of this order
abbrev pub offset_in : FrameOrder → ℕ → ℕ
offset_in order b =
    if order.is_main then b else if nat_lt b order.formals then order.locals + b else b - order.formals

-- the variables that formals and locals are, from number b on
abbrev pub formal_infos : (ℕ → ℕ) → ℕ → List (List ℕ × Shape) → List VarInfo
formal_infos offset b formals = variable_infos offset b (map (λ f. f.0) formals) (map (λ f. f.1) formals)

abbrev pub local_infos : (ℕ → ℕ) → ℕ → List (List ℕ × ValueOf) → List VarInfo
local_infos offset b locals = variable_infos offset b (map (λ l. l.0) locals) (map (λ l. l.1.shape) locals)

-- how the variables of a procedure stand in its frame
abbrev pub order_of : Bool → Procedure → FrameOrder
order_of is_main found =
    record { is_main = is_main; formals = length found.formals.items; locals = length found.locals.items }

-- its variables
abbrev pub frame_infos : Bool → Procedure → List VarInfo
frame_infos is_main found =
    variable_infos (offset_in (order_of is_main found)) 0 (seen_proc_names found).variables (shapes_of (seen_proc found))

-- a procedure under this name
abbrev pub listed_procedure : Bool → List ℕ → Procedure → ProcedureOf
listed_procedure is_main name found = record {
  name = name;
  conditions = space_name ∷ (seen_proc_names found).conditions;
  variables = frame_infos is_main found;
}

-- the address of a mark among those of all instructions
abbrev pub address_among : List (List ℕ) → MarkAt → ℕ
address_among places m = unwrap_or (slice_get places m.program >>= λ row. slice_get row m.at) 0

abbrev pub mark_among : List (List ℕ) → MarkAt → Mark
mark_among places m = record { address = address_among places m; procedure = m.program; place = m.place }

-- the program has the names that the procedures declare; at most 1,000 procedures, with at most 200 variables each
pub record Declares (program : Program) (procs : List ProcOf) : Type 0 where
  pub names : map seen_proc_names program.procedures.items ≡ map declared_names procs
  pub number : length procs ≤ most_procedures
  pub few : Each (λ p. length p.formals + length p.locals ≤ most_declared) procs

-- the system is the one that is generated from the source, whose code has at most 2^20 words
pub record IsGenerated (source : SourceOf) (system : SystemView) : Type 0 where
  pub sizes : StackSizes
  pub base : ℕ
  pub view : system ≡ generated_view (program_of source) sizes base
  pub words : total_words (program_of source) ≤ most_window
