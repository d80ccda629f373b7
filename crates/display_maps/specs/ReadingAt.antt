-- Memory read at a mark: the variables and the condition of the procedure that is active there.
use Rattle.std.specs.Prelude.{ℕ, zero, suc, ◌+◌, ◌-◌, ◌^◌, ◌==◌, List, [], ◌∷◌, ◌++◌, map, Option, Some, None, nat_lt, if◌then◌else◌}
use Rattle.std.specs.{Prelude.{slice_get, slice_index, codes}, Fmt.{decimal}, Option.{option_map}}
use Rattle.stack_text.specs.{declared.shape.Shape.{Shape}, Lines.{line}, Options.{◌>>=◌}, Values.{item_count}}
use Rattle.fm_machine.specs.{State.{Fm}, Run.{pc_of}}
use Rattle.fm_image.specs.{declared.procedure.Mark.{Mark}, declared.procedure.VarInfo.{VarInfo}, Image.{ImageOf}, Procedure.{ProcedureOf}}
use Rattle.display_maps.specs.{declared.shown.Shown.{Shown}, Reading.{word_in, condition_of, item_of}, Report.{VariableOf, reading_lines}}

-- 1. Where a run stands: the address of what comes next; the word at an address; the word of the newest frame, so far from its
-- beginning; and the word so far below the last one of memory. Each word where it is there.
pub record StandingOf : Type 0 where
  pub address : ℕ
  pub word : ℕ → Option ℕ
  pub local : ℕ → Option ℕ
  pub below : ℕ → Option ℕ

-- the word that lies so far below the last one of the window, where that is in it
abbrev pub word_below : ImageOf → Fm → ℕ → Option ℕ
word_below image s k = if nat_lt k image.size then word_in s (image.base + image.size - 1 - k) else None

-- the word so far from the address in r0, where that has 32 bits, as all addresses of a window have
abbrev pub word_from_frame : Fm → ℕ → Option ℕ
word_from_frame s offset =
    let address = slice_index s.registers 0 + offset in if nat_lt address (2 ^ 32) then word_in s address else None

-- where the machine of an image stands, with its newest frame at r0
abbrev pub machine_at : ImageOf → Fm → StandingOf
machine_at image s = record {
  address = pc_of s;
  word = word_in s;
  local = word_from_frame s;
  below = word_below image s;
}

-- 2. What is read there.

-- a variable: its name, its shape and its items
abbrev pub ItemsOf : Type 0
ItemsOf = List ℕ × Shape × List Shown

-- the procedure and the place, the condition, and the variables
pub record ReadingAtOf : Type 0 where
  pub procedure : List ℕ
  pub place : ℕ
  pub condition : Shown
  pub items : List ItemsOf

-- so many words from there downwards, where all of them are there
abbrev pub words_below : StandingOf → ℕ → ℕ → Option (List ℕ)
words_below s k zero = Some []
words_below s k (suc n) = s.below k >>= λ word. words_below s (k + 1) n >>= λ words. Some (word ∷ words)

-- the items of a shape, the first of them so far below the last word
abbrev pub items_below : StandingOf → ℕ → Shape → Option (List Shown)
items_below s index shape = option_map (map (item_of shape.kind)) (words_below s index (item_count shape))

-- the items of a variable, whose index is the word at its offset in the frame
abbrev pub items_at : StandingOf → VarInfo → Option (List Shown)
items_at s v = s.local v.offset >>= λ index. items_below s index v.shape

abbrev pub variables_at : StandingOf → List VarInfo → Option (List ItemsOf)
variables_at s [] = Some []
variables_at s (v ∷ vs) =
    items_at s v >>= λ items. variables_at s vs >>= λ others. Some ((v.name, v.shape, items) ∷ others)

-- the mark at an address
abbrev pub mark_there : ℕ → List Mark → Option Mark
mark_there address [] = None
mark_there address (m ∷ ms) = if m.address == address then Some m else mark_there address ms

-- the condition word, where the image has an address for it
abbrev pub condition_word : StandingOf → Option ℕ → Option ℕ
condition_word s address = address >>= s.word

-- the condition by its number in the procedure, and the variables
abbrev pub read_in : StandingOf → ℕ → Mark → ProcedureOf → Option ReadingAtOf
read_in s word mark procedure =
    variables_at s procedure.variables >>= λ items.
    Some record { procedure = procedure.name; place = mark.place; condition = condition_of procedure.conditions word; items = items }

-- What a run of an image says where it stands at a mark; nothing elsewhere, and nothing where the image has no condition word or a
-- word that this needs is not there.
unfoldable pub read_from : ImageOf → StandingOf → Option ReadingAtOf
read_from image s =
    mark_there s.address image.marks
    >>= λ mark. slice_get image.procedures mark.procedure
    >>= λ procedure. condition_word s image.condition_address >>= λ word. read_in s word mark procedure

-- what the memory of the image's machine says
abbrev pub reading_at : ImageOf → Fm → Option ReadingAtOf
reading_at image s = read_from image (machine_at image s)

-- 3. Its text.

abbrev pub read_variable : ItemsOf → VariableOf
read_variable v = record { name = v.0; shape = v.1; items = v.2 }

-- `in main at 48`, the condition, and the variables, each on its line
abbrev pub reading_at_text : ReadingAtOf → List ℕ
reading_at_text read =
    line (codes "in " ++ read.procedure ++ codes " at " ++ decimal read.place)
    ++ reading_lines (Some read.condition) (map read_variable read.items)
