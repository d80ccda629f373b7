-- Plain images, and their assembly text.
use Rattle.std.specs.Prelude.{ℕ, ◌-◌, List, [], ◌∷◌, ◌++◌, length, take, replicate, slice_get, slice_index, Option, Some, None, Bool, false}
use Rattle.std.specs.{Prelude.{not, is_none, ◌&&◌, ◌||◌, ◌==◌, if◌then◌else◌, codes}, Fmt.{decimal}, List.{flat_map, list_all}}
use Rattle.fm_words.specs.{declared.condition.Flags.{Flags}, Code.{decode_of}, Encoding.{encode_of}}
use Rattle.fm_image.specs.{Image.{ImageOf}, Limits.{marked_version}, Bare.{bare_image}}
use Rattle.fm_show.specs.{Digits.{hex_digits}, Disassembly.{disassembly_text}}

-- ---- plain images

-- no flag is set
abbrev pub are_clear : Flags → Bool
are_clear f = not (f.c || f.v || f.n || f.z)

-- there is no condition word, no name of a condition and no slot
abbrev pub has_no_names : ImageOf → Bool
has_no_names image = is_none image.condition_address && length image.conditions == 0 && length image.slots == 0

-- there is no procedure and no mark
abbrev pub has_no_tables : ImageOf → Bool
has_no_tables image = length image.procedures == 0 && length image.marks == 0

-- all registers but r15 are zero
abbrev pub are_zero_but_last : List ℕ → Bool
are_zero_but_last registers = list_all (λ word. word == 0) (take 15 registers)

abbrev pub is_zero : Option ℕ → Bool
is_zero None = false
is_zero (Some word) = word == 0

-- the last word is zero
abbrev pub ends_in_zero : List ℕ → Bool
ends_in_zero words = is_zero (slice_get words (length words - 1))

-- assembly text tells all of the image, which is one of version 2
unfoldable pub is_plain : ImageOf → Bool
is_plain image =
    image.version == marked_version && has_no_names image && has_no_tables image
    && are_clear image.flags && are_zero_but_last image.registers && not (ends_in_zero image.words)

-- the plain image with this window, these addresses at which a run ends and starts, and these words
abbrev pub plain_image : ℕ → ℕ → ℕ → ℕ → List ℕ → ImageOf
plain_image base size final_pc start words = bare_image base size final_pc (replicate 15 0 ++ start ∷ []) words

-- the address at which a run starts
abbrev pub start_of : ImageOf → ℕ
start_of image = slice_index image.registers 15

-- ---- their text

-- `.base 0` and the other three statements of the header, each on a line
abbrev pub header_text : ImageOf → List ℕ
header_text image =
    codes ".base " ++ decimal image.base
    ++ codes "\n.size " ++ decimal image.size
    ++ codes "\n.final " ++ decimal image.final_pc
    ++ codes "\n.start " ++ decimal (start_of image) ++ codes "\n"

-- no bit of the word is passed over when it is decoded
abbrev pub is_exact : ℕ → Bool
is_exact word = encode_of (decode_of word) == word

-- the instruction that a word is, if it is exact, and else `.word 0x` and its hexadecimal digits
unfoldable pub word_text : ℕ → List ℕ
word_text word = if is_exact word then disassembly_text word else codes ".word 0x" ++ hex_digits word

abbrev pub word_line : ℕ → List ℕ
word_line word = word_text word ++ codes "\n"

-- the four lines of the header, and a line for each word
unfoldable pub assembly_text : ImageOf → List ℕ
assembly_text image = header_text image ++ flat_map word_line image.words
