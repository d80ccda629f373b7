-- When an assembly text spells an image: the grammar. It shares with the definitions that read texts only how a line is cut
-- (`text_of`), which numbers are in their range, and where labels are.
use Rattle.std.specs.Prelude.{◌≡◌, ℕ, ◌+◌, ◌≤◌, ◌<◌, List, [], ◌∷◌, ◌++◌, length, map, Option, Some, None, Ok, Bool, true, not, ◌&&◌, ◌==◌}
use Rattle.std.specs.{Prelude.{nat_lt, IsTrue, codes, option_map, option_to_list}, Int.{w32, from_be_bytes}, List.{flat_map, list_all}}
use Rattle.std.specs.{List.{list_any, slice_split}, Str.{bytes_eq}}
use Rattle.hex.specs.Hex.{decode_sized}
use Rattle.stack_text.specs.{Names.{is_name}, Numerals.{is_digits, is_numeral, numeral_value}, Lines.{is_plain_line}}
use Rattle.fm_words.specs.{declared.operation.Op.{Op}, declared.condition.Cc.{Cc}, declared.condition.Flags.{Flags}}
use Rattle.fm_words.specs.{declared.instruction.Mode.{Mode}, declared.instruction.OperandA.{OperandA}}
use Rattle.fm_words.specs.{declared.instruction.OperandA.TheVariants.{Place}, Encoding.{encode_of}}
use Rattle.fm_show.specs.Disassembly.{operation_name, condition_text, flags_text, place_text}
use Rattle.fm_image.specs.{Image.{ImageOf}, Limits.{is_size, is_inside}, Spelling.{are_words}}
use Rattle.fm_asm.specs.{Cuts.{without_trailing}, Values.{Value, number, label, decimal_value}, Instructions.{in_9_bits}}
use Rattle.fm_asm.specs.{Statements.{Statement, base, size, final, start, word, instruction}, Lines.{Said, Line, text_of}, Sources.{kept}}
use Rattle.fm_asm.specs.{Sources.{word_count}, Labels.{offset_of, number_of}, Printing.{plain_image}}

-- ---- statements

-- eight hexadecimal digits spell a number: two a byte, the highest byte first
pub record IsHexadecimal (digits : List ℕ) (n : ℕ) : Type 0 where
  pub bytes : List ℕ
  pub digits_are : decode_sized digits 4 ≡ Ok bytes
  pub number_is : n ≡ from_be_bytes w32 bytes

-- a value: decimal digits, `0x` and eight hexadecimal digits, or a label
pub data SpellsValue : List ℕ → Value → Type 0 where
  decimal : (digits : List ℕ) → IsTrue (is_digits digits) → SpellsValue digits (number (decimal_value digits))
  hexadecimal : (digits : List ℕ) (n : ℕ) → IsHexadecimal digits n → SpellsValue (codes "0x" ++ digits) (number (Some n))
  named : (name : List ℕ) → IsTrue (is_name name) → SpellsValue name (label name)

-- operand A: `#` and a numeral, or a place as the disassembler writes it
pub data SpellsOperand : List ℕ → Option OperandA → Type 0 where
  immediate : (digits : List ℕ) → IsTrue (is_numeral digits) → SpellsOperand (codes "#" ++ digits) (in_9_bits (numeral_value digits))
  place : (mode : Mode) (reg : ℕ) → reg < 16 → SpellsOperand (place_text mode reg) (Some (Place mode reg))

-- an instruction and its word: it is written as the disassembler writes it, but for operand A
pub record SpellsInstruction (text : List ℕ) (w : Option ℕ) : Type 0 where
  pub op : Op
  pub condition : Cc
  pub set : Flags
  pub mode : Mode
  pub reg : ℕ
  pub operand : List ℕ
  pub a : Option OperandA
  pub register : reg < 16
  pub operand_is : SpellsOperand operand a
  pub text_is :
      text ≡ operation_name op ++ condition_text condition ++ flags_text set ++ codes " " ++ place_text mode reg ++ codes "," ++ operand
  pub word_is : w ≡ option_map (λ a. encode_of (record { op = op; cc = condition; set = set; mode_b = mode; reg_b = reg; a = a })) a

-- a statement, with one space between its words
pub data SpellsStatement : List ℕ → Statement → Type 0 where
  says_base : (digits : List ℕ) → IsTrue (is_digits digits) → SpellsStatement (codes ".base " ++ digits) (base (decimal_value digits))
  says_size : (digits : List ℕ) → IsTrue (is_digits digits) → SpellsStatement (codes ".size " ++ digits) (size (decimal_value digits))
  says_final : (text : List ℕ) (v : Value) → SpellsValue text v → SpellsStatement (codes ".final " ++ text) (final v)
  says_start : (text : List ℕ) (v : Value) → SpellsValue text v → SpellsStatement (codes ".start " ++ text) (start v)
  says_word : (text : List ℕ) (v : Value) → SpellsValue text v → SpellsStatement (codes ".word " ++ text) (word v)
  says_instruction : (text : List ℕ) (w : Option ℕ) → SpellsInstruction text w → SpellsStatement text (instruction w)

-- ---- lines

abbrev pub says : Option (List ℕ) → Option Statement → Said
says name s = record { label = name; statement = s }

-- one space or more
abbrev pub is_gap : List ℕ → Bool
is_gap bytes = nat_lt 0 (length bytes) && list_all (λ b. b == 32) bytes

-- what a line says: nothing, a statement, a label, or a label, spaces and a statement
pub data SpellsSaid : List ℕ → Said → Type 0 where
  nothing : SpellsSaid [] (says None None)
  statement_alone : (text : List ℕ) (s : Statement) → SpellsStatement text s → SpellsSaid text (says None (Some s))
  label_alone : (name : List ℕ) → IsTrue (is_name name) → SpellsSaid (name ++ codes ":") (says (Some name) None)
  label_and_statement : (name gap text : List ℕ) (s : Statement) → IsTrue (is_name name) → IsTrue (is_gap gap) → SpellsStatement text s
      → SpellsSaid (name ++ codes ":" ++ gap ++ text) (says (Some name) (Some s))

-- a line of at most 256 plain bytes, whose text says this
pub record IsLine (bytes : List ℕ) (said : Said) : Type 0 where
  pub plain : IsTrue (is_plain_line bytes)
  pub written : SpellsSaid (text_of bytes) said

-- these of the lines from a place on, with so many words before them, say something
pub data AreLines : ℕ → ℕ → List (List ℕ) → List Line → Type 0 where
  no_line : (place offset : ℕ) → AreLines place offset [] []
  one_line : (place offset : ℕ) (bytes : List ℕ) (said : Said) (rest : List (List ℕ)) (lines : List Line) → IsLine bytes said
      → AreLines (place + length bytes + 1) (offset + word_count said.statement) rest lines
      → AreLines place offset (bytes ∷ rest) (kept (record { place = place; offset = offset; said = said }) ++ lines)

-- ---- texts

-- the statements of lines, and their labels, in order
abbrev pub statements_of : List Line → List Statement
statements_of lines = flat_map (λ line. option_to_list line.said.statement) lines

abbrev pub labels_of : List Line → List (List ℕ)
labels_of lines = flat_map (λ line. option_to_list line.said.label) lines

-- each name stands once
unfoldable pub are_distinct : List (List ℕ) → Bool
are_distinct [] = true
are_distinct (name ∷ names) = not (list_any (bytes_eq name) names) && are_distinct names

-- the word of a statement, if it is one and its number is there
unfoldable pub statement_word : ℕ → (List ℕ → Option ℕ) → Statement → Option ℕ
statement_word b known (word v) = number_of b known v
statement_word b known (instruction w) = w
statement_word b known s = None

-- The text spells the image. Its lines are of a form; they say the four statements of the header, in order, and then words. Each
-- label stands once, and each that is named stands somewhere. The words are no more than the window has, and a run ends inside
-- it. The image is the plain one with that window and those words, up to the last that isn't zero.
pub record IsAssembly (text : List ℕ) (image : ImageOf) : Type 0 where
  pub lines : List Line
  pub end_value : Value
  pub start_value : Value
  pub start_pc : ℕ
  pub statements : List Statement
  pub words : List ℕ
  pub are_lines : AreLines 0 0 (slice_split (λ b. b == 10) text) lines
  pub in_order : statements_of lines ≡ base (Some image.base) ∷ size (Some image.size) ∷ final end_value ∷ start start_value ∷ statements
  pub sized : IsTrue (is_size image.base image.size)
  pub labels_differ : IsTrue (are_distinct (labels_of lines))
  pub end_is : number_of image.base (offset_of lines) end_value ≡ Some image.final_pc
  pub start_is : number_of image.base (offset_of lines) start_value ≡ Some start_pc
  pub words_are : map (statement_word image.base (offset_of lines)) statements ≡ map (λ w. Some w) words
  pub fit : IsTrue (are_words (start_pc ∷ words))
  pub few : length words ≤ image.size
  pub inside : IsTrue (is_inside image.base image.size image.final_pc)
  pub image_is : image ≡ plain_image image.base image.size image.final_pc start_pc (without_trailing 0 words)
