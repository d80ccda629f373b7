-- The versions of images, and their limits.
use Rattle.std.specs.Prelude.{ℕ, ◌+◌, ◌^◌, ◌-◌, List, [], ◌∷◌, ◌++◌, length, map, slice_get, Option, Some, None, Bool, true, not, ◌&&◌}
use Rattle.std.specs.Prelude.{◌||◌, ◌==◌, nat_lt, nat_le, if◌then◌else◌, codes}
use Rattle.fm_words.specs.WindowLimit.{most_window}
use Rattle.stack_text.specs.{SharedLimits.{most_array, most_text, most_declared, most_procedures}, declared.shape.Shape.{Shape}}
use Rattle.stack_text.specs.{Names.{is_name, is_among}, Values.{item_count}}
use Rattle.fm_image.specs.{declared.procedure.Mark.{Mark}, declared.procedure.VarInfo.{VarInfo}, declared.slot.Slot.{Slot}}
use Rattle.fm_image.specs.{declared.window.Window.{Window}, Procedure.{ProcedureOf}, Image.{ImageOf}}

-- the bytes that an image file begins with
abbrev pub magic_bytes : List ℕ
magic_bytes = codes "FM91"

-- the version without procedures and marks
abbrev pub unmarked_version : ℕ
unmarked_version = 1

-- the version with procedures and marks, in which images are made
abbrev pub marked_version : ℕ
marked_version = 2

-- what version 2 has after the fields of version 1
pub record Tables : Type 0 where
  pub procedures : List ProcedureOf
  pub marks : List Mark

abbrev pub no_tables : Tables
no_tables = record { procedures = []; marks = [] }

abbrev pub tables_of : ImageOf → Tables
tables_of image = record { procedures = image.procedures; marks = image.marks }

abbrev pub is_version : ℕ → Bool
is_version version = version == unmarked_version || version == marked_version

abbrev pub window_of : ImageOf → Window
window_of image = record { base = image.base; size = image.size; final_pc = image.final_pc }

-- 1 to 2^20 words, all of them at addresses below 2^32 - 1
abbrev pub is_size : ℕ → ℕ → Bool
is_size base size = nat_le 1 size && nat_le size most_window && nat_le (base + size) (2 ^ 32 - 1)

-- an address of the window
abbrev pub is_inside : ℕ → ℕ → ℕ → Bool
is_inside base size address = nat_le base address && nat_lt address (base + size)

abbrev pub is_window : Window → Bool
is_window window = is_size window.base window.size && is_inside window.base window.size window.final_pc

abbrev pub is_condition_address : Window → Option ℕ → Bool
is_condition_address window None = true
is_condition_address window (Some address) = is_inside window.base window.size address

-- the same image in version 2
abbrev pub in_version_2 : ImageOf → ImageOf
in_version_2 image = record image { version = marked_version }

-- so many items are no more than there may be
abbrev pub is_count : ℕ → ℕ → Bool
is_count most count = nat_le count most

-- the conditions of a procedure of an image with marks: those of its source, and `spaceerror`
abbrev pub most_marked_conditions : ℕ
most_marked_conditions = 201

-- how many names of conditions there may be before the slots
abbrev pub most_conditions : ℕ → ℕ
most_conditions version = if version == unmarked_version then most_declared else most_marked_conditions

-- the items, from the address downwards, are all in the window
abbrev pub is_slot_address : Window → Shape → ℕ → Bool
is_slot_address window shape address = nat_le (window.base + item_count shape) (address + 1) && nat_lt address (window.base + window.size)

-- a name that is none of the earlier ones
abbrev pub is_new : List (List ℕ) → List ℕ → Bool
is_new earlier name = not (is_among name earlier)

-- a name that no earlier condition has
abbrev pub is_condition : List (List ℕ) → List ℕ → Bool
is_condition earlier name = is_name name && is_new earlier name

-- a slot within the limits, under a name that no earlier slot has
abbrev pub is_slot : Window → List Slot → Slot → Bool
is_slot window earlier slot =
    is_name slot.name && is_new (map (λ other. other.name) earlier) slot.name
    && nat_le slot.shape.length most_array && is_slot_address window slot.shape slot.address

-- each item passes a test that knows the items before it
unfoldable pub all_after : {A : Type 0} → (List A → A → Bool) → List A → List A → Bool
all_after test earlier [] = true
all_after test earlier (item ∷ items) = test earlier item && all_after test (earlier ++ item ∷ []) items

-- a word of a frame
abbrev pub is_offset : ℕ → Bool
is_offset offset = nat_le offset 199

-- a variable within the limits, under a name that no earlier variable has
abbrev pub is_variable : List VarInfo → VarInfo → Bool
is_variable earlier variable =
    is_name variable.name && is_new (map (λ other. other.name) earlier) variable.name
    && nat_le variable.shape.length most_array && is_offset variable.offset

-- a procedure within the limits, under a name that no earlier procedure has
abbrev pub is_procedure : List ProcedureOf → ProcedureOf → Bool
is_procedure earlier procedure =
    is_name procedure.name && is_new (map (λ other. other.name) earlier) procedure.name
    && (is_count most_marked_conditions (length procedure.conditions) && all_after is_condition [] procedure.conditions)
    && (is_count most_declared (length procedure.variables) && all_after is_variable [] procedure.variables)

-- the last of the marks
abbrev pub last_mark : List Mark → Option Mark
last_mark marks = slice_get marks (length marks - 1)

-- greater than the address of the mark before
abbrev pub is_after : Option Mark → ℕ → Bool
is_after None address = true
is_after (Some mark) address = nat_lt mark.address address

abbrev pub is_place : ℕ → Bool
is_place place = nat_lt place most_text

-- a mark within the limits, for so many procedures, behind the earlier marks
abbrev pub is_mark : Window → ℕ → List Mark → Mark → Bool
is_mark window procedures earlier mark =
    (is_inside window.base window.size mark.address && is_after (last_mark earlier) mark.address)
    && nat_lt mark.procedure procedures && is_place mark.place

abbrev pub are_tables : Window → Tables → Bool
are_tables window tables =
    (is_count most_procedures (length tables.procedures) && all_after is_procedure [] tables.procedures)
    && (is_count most_window (length tables.marks)
    && all_after (is_mark window (length tables.procedures)) [] tables.marks)

-- version 1 has no procedures and no marks
abbrev pub is_tables : ℕ → Window → Tables → Bool
is_tables version window tables =
    if version == unmarked_version then length tables.procedures == 0 && length tables.marks == 0 else are_tables window tables

-- the limits of an image
unfoldable pub is_image : ImageOf → Bool
is_image image =
    is_version image.version
    && is_window (window_of image)
    && length image.registers == 16
    && is_condition_address (window_of image) image.condition_address
    && is_count (most_conditions image.version) (length image.conditions)
    && all_after is_condition [] image.conditions
    && is_count most_declared (length image.slots)
    && all_after (is_slot (window_of image)) [] image.slots
    && is_count image.size (length image.words)
    && is_tables image.version (window_of image) (tables_of image)
