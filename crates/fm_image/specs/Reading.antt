-- Reading an image field by field, from left to right, with the first fault.
use Rattle.std.specs.Prelude.{◌≡◌, ℕ, zero, suc, ◌-◌, ◌^◌, List, [], length, map, Result, Ok, Err, Option, Some, None, Bool, nat_lt, nat_le}
use Rattle.std.specs.{Prelude.{◌==◌, if◌then◌else◌}, Str.{bytes_eq}}
use Rattle.fm_words.specs.{WindowLimit.{most_window}, declared.condition.Flags.{Flags}, Code.{flags_of}}
use Rattle.stack_text.specs.{SharedLimits.{most_array, most_declared, most_procedures}, declared.shape.Kind.{Kind}}
use Rattle.stack_text.specs.{declared.shape.Kind.TheVariants.{Integer, Boolean, Character}, declared.shape.Shape.{Shape}, Names.{is_name}}
use Rattle.stack_text.specs.Results.{◌>>=◌}
use Rattle.fm_image.specs.{declared.fault.ImageFault.{ImageFault}, declared.fault.ImageFault.TheVariants.{Refused, Memory}}
use Rattle.fm_image.specs.{declared.procedure.Mark.{Mark}, declared.procedure.VarInfo.{VarInfo}, declared.slot.Slot.{Slot}}
use Rattle.fm_image.specs.{declared.window.Window.{Window}, Procedure.{ProcedureOf}, Image.{ImageOf}, Limits.{magic_bytes}}
use Rattle.fm_image.specs.Limits.{unmarked_version, Tables, no_tables, is_version, is_size, is_inside, most_marked_conditions}
use Rattle.fm_image.specs.Limits.{is_condition_address, is_count, is_new, is_slot_address, most_conditions, is_offset, last_mark, is_after}
use Rattle.fm_image.specs.{Limits.{is_place}, Rules.{rule_number, Fault, Parser}, Fields.{place, number_at, passing, bytes_at, text_at}}
use Rattle.fm_image.specs.Fields.{items_at}
use Rattle.fm_image.specs.declared.fault.Rule.TheVariants as rules

abbrev pub is_magic : List ℕ → Bool
is_magic bytes = bytes_eq bytes magic_bytes

-- the magic and the version
abbrev pub opening_at : ℕ → Parser ℕ
opening_at end left = do
  magic ← passing is_magic rules.Magic end (bytes_at end 4) left
  passing is_version rules.Version end (number_at end) magic.1

-- the base, the size and the final program counter
abbrev pub window_at : ℕ → Parser Window
window_at end left = do
  base ← number_at end left
  size ← passing (is_size base.0) rules.Limit end (number_at end) base.1
  final_pc ← passing (is_inside base.0 size.0) rules.Limit end (number_at end) size.1
  Ok (record { base = base.0; size = size.0; final_pc = final_pc.0 }, final_pc.1)

-- so many numbers
abbrev pub numbers_at : ℕ → ℕ → Parser (List ℕ)
numbers_at end count left = items_at (λ earlier. number_at end) count [] left

-- 8 for c, 4 for v, 2 for n and 1 for z
abbrev pub is_flags : ℕ → Bool
is_flags number = nat_le number 15

abbrev pub flags_at : ℕ → Parser Flags
flags_at end left = do
  number ← passing is_flags rules.Limit end (number_at end) left
  Ok (flags_of number.0, number.1)

-- 2^32 - 1 says that there is no condition word
abbrev pub address_from : ℕ → Option ℕ
address_from number = if number == 2 ^ 32 - 1 then None else Some number

abbrev pub condition_address_at : ℕ → Window → Parser (Option ℕ)
condition_address_at end window left = do
  number ← passing (λ n. is_condition_address window (address_from n)) rules.Address end (number_at end) left
  Ok (address_from number.0, number.1)

-- a length that no name has, and bytes that are no name, break one rule, at the length
abbrev pub name_at : ℕ → Parser (List ℕ)
name_at end left = passing is_name rules.Name end (text_at end) left

-- a name after the earlier ones of its list
abbrev pub new_name_at : ℕ → List (List ℕ) → Parser (List ℕ)
new_name_at end earlier left = passing (is_new earlier) rules.Repeated end (name_at end) left

-- how many items follow, where there is a limit
abbrev pub count_at : ℕ → ℕ → Parser ℕ
count_at most end left = passing (is_count most) rules.Limit end (number_at end) left

-- at most so many names of conditions
unfoldable pub conditions_at : ℕ → ℕ → Parser (List (List ℕ))
conditions_at most end left = do
  count ← count_at most end left
  items_at (new_name_at end) count.0 [] count.1

-- 0, 1 or 2
abbrev pub kind_of : ℕ → Kind
kind_of zero = Integer
kind_of (suc zero) = Boolean
kind_of (suc (suc number)) = Character

abbrev pub is_kind : ℕ → Bool
is_kind number = nat_le number 2

abbrev pub kind_at : ℕ → Parser Kind
kind_at end left = do
  number ← passing is_kind rules.Limit end (number_at end) left
  Ok (kind_of number.0, number.1)

abbrev pub is_length : ℕ → Bool
is_length number = nat_le number most_array

abbrev pub shape_at : ℕ → Parser Shape
shape_at end left = do
  kind ← kind_at end left
  count ← passing is_length rules.Limit end (number_at end) kind.1
  Ok (record { kind = kind.0; length = count.0 }, count.1)

-- a name after earlier ones, a shape, and an address from which all items are in the window
unfoldable pub slot_at : ℕ → Window → List (List ℕ) → Parser Slot
slot_at end window earlier left = do
  name ← new_name_at end earlier left
  shape ← shape_at end name.1
  address ← passing (is_slot_address window shape.0) rules.Address end (number_at end) shape.1
  Ok (record { name = name.0; shape = shape.0; address = address.0 }, address.1)

unfoldable pub slots_at : ℕ → Window → Parser (List Slot)
slots_at end window left = do
  count ← count_at most_declared end left
  items_at (λ earlier. slot_at end window (map (λ slot. slot.name) earlier)) count.0 [] count.1

-- at most as many words as the window has
unfoldable pub words_at : ℕ → Window → Parser (List ℕ)
words_at end window left = do
  count ← count_at window.size end left
  numbers_at end count.0 count.1

-- a name after earlier ones, a shape, and a place in a frame
unfoldable pub variable_at : ℕ → List (List ℕ) → Parser VarInfo
variable_at end earlier left = do
  name ← new_name_at end earlier left
  shape ← shape_at end name.1
  offset ← passing is_offset rules.Limit end (number_at end) shape.1
  Ok (record { name = name.0; shape = shape.0; offset = offset.0 }, offset.1)

unfoldable pub variables_at : ℕ → Parser (List VarInfo)
variables_at end left = do
  count ← count_at most_declared end left
  items_at (λ earlier. variable_at end (map (λ variable. variable.name) earlier)) count.0 [] count.1

-- a name after earlier ones, conditions and variables
unfoldable pub procedure_at : ℕ → List (List ℕ) → Parser ProcedureOf
procedure_at end earlier left = do
  name ← new_name_at end earlier left
  conditions ← conditions_at most_marked_conditions end name.1
  variables ← variables_at end conditions.1
  Ok (record { name = name.0; conditions = conditions.0; variables = variables.0 }, variables.1)

unfoldable pub procedures_at : ℕ → Parser (List ProcedureOf)
procedures_at end left = do
  count ← count_at most_procedures end left
  items_at (λ earlier. procedure_at end (map (λ procedure. procedure.name) earlier)) count.0 [] count.1

-- an address of the window, greater than that of the mark before
abbrev pub mark_address_at : ℕ → Window → Option Mark → Parser ℕ
mark_address_at end window before left =
    passing (is_after before) rules.Order end
    (passing (is_inside window.base window.size) rules.Address end (number_at end)) left

-- an address behind the mark before, the number of a procedure, and a place in the source
unfoldable pub mark_at : ℕ → Window → ℕ → Option Mark → Parser Mark
mark_at end window procedures before left = do
  address ← mark_address_at end window before left
  procedure ← passing (λ n. nat_lt n procedures) rules.Limit end (number_at end) address.1
  place ← passing is_place rules.Limit end (number_at end) procedure.1
  Ok (record { address = address.0; procedure = procedure.0; place = place.0 }, place.1)

unfoldable pub marks_at : ℕ → Window → ℕ → Parser (List Mark)
marks_at end window procedures left = do
  count ← count_at most_window end left
  items_at (λ earlier. mark_at end window procedures (last_mark earlier)) count.0 [] count.1

unfoldable pub both_tables_at : ℕ → Window → Parser Tables
both_tables_at end window left = do
  procedures ← procedures_at end left
  marks ← marks_at end window (length procedures.0) procedures.1
  Ok (record { procedures = procedures.0; marks = marks.0 }, marks.1)

-- the fields that only version 2 has
unfoldable pub tables_at : ℕ → ℕ → Window → Parser Tables
tables_at version end window left = if version == unmarked_version then Ok (no_tables, left) else both_tables_at end window left

-- the fields of version 1, then those that only version 2 has, and no byte after them
unfoldable pub image_at : ℕ → List ℕ → Result ImageOf Fault
image_at end left = do
  version ← opening_at end left
  window ← window_at end version.1
  registers ← numbers_at end 16 window.1
  flags ← flags_at end registers.1
  condition_address ← condition_address_at end window.0 flags.1
  conditions ← conditions_at (most_conditions version.0) end condition_address.1
  slots ← slots_at end window.0 conditions.1
  words ← words_at end window.0 slots.1
  tables ← tables_at version.0 end window.0 words.1
  let image : ImageOf = record {
    version = version.0;
    base = window.0.base;
    size = window.0.size;
    final_pc = window.0.final_pc;
    registers = registers.0;
    flags = flags.0;
    condition_address = condition_address.0;
    conditions = conditions.0;
    slots = slots.0;
    words = words.0;
    procedures = tables.0.procedures;
    marks = tables.0.marks;
  } in
      if length tables.1 == 0 then Ok image else Err (rule_number rules.Trailing, place end tables.1)

-- the image that a file has, or else its first fault
abbrev pub read_of : List ℕ → Result ImageOf Fault
read_of bytes = image_at (length bytes) bytes

abbrev pub error_of : {A : Type 0} → Result A Fault → Option Fault
error_of (Ok x) = None
error_of (Err fault) = Some fault

-- the first fault of a file, by its rule and its place
abbrev pub image_fault : List ℕ → Option Fault
image_fault bytes = error_of (read_of bytes)

-- What a call says of the faults of a file: an image is read only where there is none, and else the error is the
-- first. Out of memory alone is free.
abbrev pub ReportsFault : {X : Type 0} → List ℕ → Result X ImageFault → Type 0
ReportsFault bytes (Ok x) = image_fault bytes ≡ None
ReportsFault bytes (Err (Refused rule place)) = image_fault bytes ≡ Some (rule, place)
ReportsFault bytes (Err Memory) = Unit {0}
