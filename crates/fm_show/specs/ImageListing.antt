-- An image as lines of text.
use Rattle.std.specs.{Prelude.{ℕ, List, [], ◌++◌, Option, None, Some, slice_get, codes}, Fmt.{decimal}, List.{flat_map}}
use Rattle.stack_text.specs.{declared.shape.Shape.{Shape}, Values.{kind_name}}
use Rattle.fm_image.specs.{declared.procedure.Mark.{Mark}, declared.procedure.VarInfo.{VarInfo}, declared.slot.Slot.{Slot}}
use Rattle.fm_image.specs.{Procedure.{ProcedureOf}, Image.{ImageOf}}
use Rattle.fm_show.specs.{Digits.{hex_digits}, Disassembly.{disassembly_text}, Listing.{line_end, numbered_lines, register_lines}}
use Rattle.fm_show.specs.Listing.{flags_line}

-- `base 00000000`, `size 11` and `final 00000007`, each on its line
abbrev pub window_lines : ImageOf → List ℕ
window_lines image =
    codes "base " ++ hex_digits image.base
    ++ codes "\nsize " ++ decimal image.size
    ++ codes "\nfinal " ++ hex_digits image.final_pc ++ line_end

-- `condition 00000008`, and nothing where there is no condition word
abbrev pub condition_line : Option ℕ → List ℕ
condition_line None = []
condition_line (Some address) = codes "condition " ++ hex_digits address ++ line_end

-- `name disorder`
abbrev pub name_line : List ℕ → List ℕ
name_line name = codes "name " ++ name ++ line_end

-- `integer 0`, where the length of a simple type is 0
abbrev pub shape_text : Shape → List ℕ
shape_text shape = kind_name shape.kind ++ codes " " ++ decimal shape.length

-- `slot x integer 0 00000274`
abbrev pub slot_line : Slot → List ℕ
slot_line slot = codes "slot " ++ slot.name ++ codes " " ++ shape_text slot.shape ++ codes " " ++ hex_digits slot.address ++ line_end

-- `00000007 05e03c0f DEC r15,r15`
abbrev pub word_line : ℕ → ℕ → List ℕ
word_line address word = hex_digits address ++ codes " " ++ hex_digits word ++ codes " " ++ disassembly_text word ++ line_end

-- `variable x integer 0 0`
abbrev pub variable_line : VarInfo → List ℕ
variable_line variable =
    codes "variable " ++ variable.name ++ codes " " ++ shape_text variable.shape ++ codes " " ++ decimal variable.offset ++ line_end

-- `procedure main`, and its variables under it
abbrev pub procedure_lines : ProcedureOf → List ℕ
procedure_lines procedure = codes "procedure " ++ procedure.name ++ line_end ++ flat_map variable_line procedure.variables

-- the name of the procedure of a number
abbrev pub name_or_none : Option ProcedureOf → List ℕ
name_or_none None = []
name_or_none (Some procedure) = procedure.name

abbrev pub procedure_name : List ProcedureOf → ℕ → List ℕ
procedure_name procedures number = name_or_none (slice_get procedures number)

-- `mark 00000004 main 48`
abbrev pub mark_line : List ProcedureOf → Mark → List ℕ
mark_line procedures mark =
    codes "mark " ++ hex_digits mark.address ++ codes " " ++ procedure_name procedures mark.procedure ++ codes " "
    ++ decimal mark.place ++ line_end

-- the window, the sixteen registers, the flags, the condition word, the names of conditions, the slots, the words, the
-- procedures and the marks
abbrev pub image_listing : ImageOf → List ℕ
image_listing image =
    window_lines image
    ++ register_lines image.registers
    ++ flags_line image.flags
    ++ condition_line image.condition_address
    ++ flat_map name_line image.conditions
    ++ flat_map slot_line image.slots
    ++ numbered_lines word_line image.base image.words
    ++ flat_map procedure_lines image.procedures
    ++ flat_map (mark_line image.procedures) image.marks
