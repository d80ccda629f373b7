-- The one spelling of an image: its fields, one after the other.
use Rattle.std.specs.Prelude.{◌≡◌, ℕ, ◌-◌, ◌^◌, List, [], ◌++◌, length, Option, Some, None, Bool, IsTrue, nat_lt, ◌==◌, ◌&&◌, if◌then◌else◌}
use Rattle.std.specs.{Int.{w32, to_be_bytes}, List.{flat_map, list_all}}
use Rattle.stack_text.specs.{SharedLimits.{most_declared}, declared.shape.Kind.{Kind}, declared.shape.Kind.TheVariants.{Integer, Boolean}}
use Rattle.stack_text.specs.{declared.shape.Kind.TheVariants.{Character}, declared.shape.Shape.{Shape}}
use Rattle.fm_words.specs.{declared.condition.Flags.{Flags}, Encoding.{flags_number}}
use Rattle.fm_image.specs.{declared.procedure.Mark.{Mark}, declared.procedure.VarInfo.{VarInfo}, declared.slot.Slot.{Slot}}
use Rattle.fm_image.specs.{declared.window.Window.{Window}, Procedure.{ProcedureOf}, Image.{ImageOf}, Limits.{magic_bytes}}
use Rattle.fm_image.specs.Limits.{unmarked_version, Tables, tables_of, is_count, window_of, is_image, most_marked_conditions}

-- a number in four bytes, highest first
abbrev pub number_bytes : ℕ → List ℕ
number_bytes number = to_be_bytes w32 number

abbrev pub numbers_bytes : List ℕ → List ℕ
numbers_bytes numbers = flat_map number_bytes numbers

-- a name is its length and its bytes
abbrev pub name_bytes : List ℕ → List ℕ
name_bytes name = number_bytes (length name) ++ name

-- items are how many there are, and then each of them
abbrev pub counted_bytes : {A : Type 0} → (A → List ℕ) → List A → List ℕ
counted_bytes item items = number_bytes (length items) ++ flat_map item items

abbrev pub opening_bytes : ℕ → List ℕ
opening_bytes version = magic_bytes ++ number_bytes version

abbrev pub window_bytes : Window → List ℕ
window_bytes window = number_bytes window.base ++ number_bytes window.size ++ number_bytes window.final_pc

abbrev pub flags_bytes : Flags → List ℕ
flags_bytes flags = number_bytes (flags_number flags)

-- 2^32 - 1 where there is no condition word
abbrev pub address_number : Option ℕ → ℕ
address_number None = 2 ^ 32 - 1
address_number (Some address) = address

abbrev pub condition_address_bytes : Option ℕ → List ℕ
condition_address_bytes address = number_bytes (address_number address)

abbrev pub kind_number : Kind → ℕ
kind_number Integer = 0
kind_number Boolean = 1
kind_number Character = 2

abbrev pub kind_bytes : Kind → List ℕ
kind_bytes kind = number_bytes (kind_number kind)

abbrev pub shape_bytes : Shape → List ℕ
shape_bytes shape = kind_bytes shape.kind ++ number_bytes shape.length

abbrev pub slot_bytes : Slot → List ℕ
slot_bytes slot = name_bytes slot.name ++ shape_bytes slot.shape ++ number_bytes slot.address

abbrev pub variable_bytes : VarInfo → List ℕ
variable_bytes variable = name_bytes variable.name ++ shape_bytes variable.shape ++ number_bytes variable.offset

abbrev pub procedure_bytes : ProcedureOf → List ℕ
procedure_bytes procedure =
    name_bytes procedure.name
    ++ counted_bytes name_bytes procedure.conditions
    ++ counted_bytes variable_bytes procedure.variables

-- the lists of a procedure are no longer than they may be
abbrev pub is_small : ProcedureOf → Bool
is_small procedure = is_count most_marked_conditions (length procedure.conditions) && is_count most_declared (length procedure.variables)

abbrev pub mark_bytes : Mark → List ℕ
mark_bytes mark = number_bytes mark.address ++ number_bytes mark.procedure ++ number_bytes mark.place

-- the fields that only version 2 has
abbrev pub tables_bytes : ℕ → Tables → List ℕ
tables_bytes version tables =
    if version == unmarked_version then []
    else counted_bytes procedure_bytes tables.procedures ++ counted_bytes mark_bytes tables.marks

-- the fields of version 1, and then those that only version 2 has
unfoldable pub spelling : ImageOf → List ℕ
spelling image =
    opening_bytes image.version
    ++ window_bytes (window_of image)
    ++ numbers_bytes image.registers
    ++ flags_bytes image.flags
    ++ condition_address_bytes image.condition_address
    ++ counted_bytes name_bytes image.conditions
    ++ counted_bytes slot_bytes image.slots
    ++ counted_bytes number_bytes image.words
    ++ tables_bytes image.version (tables_of image)

-- numbers of 32 bits
abbrev pub are_words : List ℕ → Bool
are_words numbers = list_all (λ number. nat_lt number (2 ^ 32)) numbers

-- The bytes spell the image: it keeps the limits, and they are its fields and nothing else.
pub record Spelled (bytes : List ℕ) (image : ImageOf) : Type 0 where
  pub limits : IsTrue (is_image image)
  pub registers : IsTrue (are_words image.registers)
  pub words : IsTrue (are_words image.words)
  pub fields : bytes ≡ spelling image
