-- A machine's registers and flags as lines of text.
use Rattle.std.specs.{Prelude.{ℕ, ◌+◌, List, [], ◌∷◌, ◌++◌, Bool, if◌then◌else◌, codes}, Fmt.{decimal}}
use Rattle.fm_words.specs.declared.condition.Flags.{Flags}
use Rattle.fm_machine.specs.State.{Fm}
use Rattle.fm_show.specs.{Digits.{hex_digits}, Disassembly.{register_name}}

-- LF
abbrev pub line_end : List ℕ
line_end = codes "\n"

-- a line for each word, by its number, where the first word has this number
unfoldable pub numbered_lines : (ℕ → ℕ → List ℕ) → ℕ → List ℕ → List ℕ
numbered_lines line number [] = []
numbered_lines line number (word ∷ words) = line number word ++ numbered_lines line (number + 1) words

-- `r3 0000000f`
abbrev pub register_line : ℕ → ℕ → List ℕ
register_line r word = register_name r ++ codes " " ++ hex_digits word ++ line_end

-- the lines of registers, from r0 on
abbrev pub register_lines : List ℕ → List ℕ
register_lines registers = numbered_lines register_line 0 registers

-- a flag's letter, or `-` where it is clear
abbrev pub flag_letter : Bool → List ℕ → List ℕ
flag_letter is_set letter = if is_set then letter else codes "-"

-- `c--z`
abbrev pub flag_letters : Flags → List ℕ
flag_letters f =
    flag_letter f.c (codes "c") ++ flag_letter f.v (codes "v") ++ flag_letter f.n (codes "n") ++ flag_letter f.z (codes "z")

-- `flags c--z`
abbrev pub flags_line : Flags → List ℕ
flags_line f = codes "flags " ++ flag_letters f ++ line_end

-- `count 28`
abbrev pub count_line : ℕ → List ℕ
count_line count = codes "count " ++ decimal count ++ line_end

-- the count, the sixteen registers and the flags, each on its line
abbrev pub machine_listing : Fm → ℕ → List ℕ
machine_listing state count = count_line count ++ register_lines state.registers ++ flags_line state.flags
