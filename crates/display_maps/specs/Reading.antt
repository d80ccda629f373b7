-- Memory read as a condition and variables.
use Rattle.std.specs.Prelude.{ℕ, zero, suc, ◌-◌, List, [], ◌∷◌, map, Option, Some, None, true, false, ◌==◌, nat_le, if◌then◌else◌}
use Rattle.std.specs.{Prelude.{slice_get, unwrap_or, codes}, List.{find}, Option.{option_map}, Str.{bytes_eq}}
use Rattle.stack_text.specs.{declared.shape.Kind.{Kind}, declared.shape.Kind.TheVariants.{Integer, Boolean, Character}, Values.{item_count}}
use Rattle.fm_words.specs.Word.{signed_of}
use Rattle.fm_machine.specs.State.{Fm, word_at}
use Rattle.fm_image.specs.{declared.slot.Slot.{Slot}, Image.{ImageOf}}
use Rattle.display_maps.specs.{declared.shown.Shown.{Shown}, declared.shown.Shown.TheVariants.{Normal, Routine, Leave, Named, Number}}
use Rattle.display_maps.specs.declared.shown.Shown.TheVariants.{Truth, Code, Odd}

-- what clauses see of a `Reading`: the condition where there is one, and each variable's name and items
pub record ReadingOf : Type 0 where
  pub condition : Option Shown
  pub items : List (List ℕ × List Shown)

-- the word at an address, where that is in the window
abbrev pub word_in : Fm → ℕ → Option ℕ
word_in s address = word_at s.base s.memory address

-- the same, and 0 for an address outside the window, which no slot and no condition address of an image within its limits has
abbrev pub word_or_zero : Fm → ℕ → ℕ
word_or_zero s address = unwrap_or (word_in s address) 0

-- the condition that a call without room sets, as images name it
abbrev pub space_name : List ℕ
space_name = codes "spaceerror"

-- 0 is leave, 1 routineerror, 2 normal, and the named conditions are counted from 3 on
abbrev pub named_or_odd : Option (List ℕ) → ℕ → Shown
named_or_odd (Some name) word = Named name
named_or_odd None word = Odd word

unfoldable pub condition_of : List (List ℕ) → ℕ → Shown
condition_of names word =
    if word == 0 then Leave else
    if word == 1 then Routine else
    if word == 2 then Normal else named_or_odd (slice_get names (word - 3)) word

-- an integer is signed; a Boolean is 0 or 1; a character is an ASCII code; any other word is odd
unfoldable pub item_of : Kind → ℕ → Shown
item_of Integer word = Number (signed_of word)
item_of Boolean word = if word == 0 then Truth false else (if word == 1 then Truth true else Odd word)
item_of Character word = if nat_le word 127 then Code word else Odd word

-- so many words, from an address downwards
abbrev pub words_down : Fm → ℕ → ℕ → List ℕ
words_down s address zero = []
words_down s address (suc n) = word_or_zero s address ∷ words_down s (address - 1) n

-- a variable: item j is the word at the slot's address less j
abbrev pub variable_of : Fm → Slot → List ℕ × List Shown
variable_of s slot = (slot.name, map (item_of slot.shape.kind) (words_down s slot.address (item_count slot.shape)))

-- what the memory of an image's machine says
abbrev pub reading : ImageOf → Fm → ReadingOf
reading image s =
    record {
      condition = option_map (λ address. condition_of image.conditions (word_or_zero s address)) image.condition_address;
      items = map (variable_of s) image.slots;
    }

-- the items of the first variable of a name
unfoldable pub items_named : List ℕ → List (List ℕ × List Shown) → Option (List Shown)
items_named name variables = option_map (λ variable. variable.1) (find (λ variable. bytes_eq variable.0 name) variables)
