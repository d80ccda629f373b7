-- The machine as it is loaded.
use Rattle.std.specs.{Prelude.{◌≡◌, ℕ, ◌+◌, ◌-◌, ℤ, List, [], ◌∷◌, map, replicate, IsTrue, nat_le}, List.{list_all}}
use Rattle.stack_text.specs.Values.{ValueOf, item_count}
use Rattle.fm_words.specs.Word.{word_of_int}
use Rattle.fm_machine.specs.State.{Fm, with_word}
use Rattle.fm_image.specs.{declared.slot.Slot.{Slot}, Image.{ImageOf}}

-- a value of its shape for each slot
abbrev pub Fits : List Slot → List ValueOf → Type 0
Fits slots values = map (λ value. value.shape) values ≡ map (λ slot. slot.shape) slots

-- the items of each slot stand above the base, from its address downwards
abbrev pub HaveRoom : ℕ → List Slot → Type 0
HaveRoom base slots = IsTrue (list_all (λ slot. nat_le (base + item_count slot.shape) (slot.address + 1)) slots)

-- words stored from an address upwards
abbrev pub with_words : ℕ → ℕ → List ℕ → List ℕ → List ℕ
with_words base address [] memory = memory
with_words base address (word ∷ words) memory = with_words base (address + 1) words (with_word base memory address word)

-- items stored from an address downwards
abbrev pub with_items : ℕ → ℕ → List ℤ → List ℕ → List ℕ
with_items base address [] memory = memory
with_items base address (item ∷ items) memory = with_items base (address - 1) items (with_word base memory address (word_of_int item))

-- each value stored in its slot: within the window, where the image is within its limits
abbrev pub with_values : ℕ → List Slot → List ValueOf → List ℕ → List ℕ
with_values base [] values memory = memory
with_values base (slot ∷ slots) [] memory = memory
with_values base (slot ∷ slots) (value ∷ values) memory = with_values base slots values (with_items base slot.address value.items memory)

-- the image's registers and flags, and a window of zeros with the image's words from its base on and the values in the slots
abbrev pub loaded : ImageOf → List ValueOf → Fm
loaded image values =
    record {
      base = image.base;
      registers = image.registers;
      flags = image.flags;
      memory = with_values image.base image.slots values (with_words image.base image.base image.words (replicate image.size 0));
    }
