-- What a run of Piton's machine says of the variables of its source, at its end and at the marks of its image.
use Rattle.std.specs.Prelude.{ℕ, zero, suc, ◌+◌, ◌-◌, List, [], ◌∷◌, length, map, reverse, Bool, ◌&&◌, nat_lt, nat_le, if◌then◌else◌}
use Rattle.std.specs.{Prelude.{slice_get, slice_index, unwrap_or, Option}, List.{list_all, flat_map}, Option.{option_map}}
use Rattle.stack_text.specs.Values.{item_count}
use Rattle.fm_machine.specs.State.{word_at}
use Rattle.fm_image.specs.{declared.slot.Slot.{Slot}, Image.{ImageOf}}
use Rattle.display_maps.specs.{declared.shown.Shown.{Shown}, Reading.{ReadingOf, condition_of, item_of}, ReadingAt.{StandingOf, read_from}}
use Rattle.display_maps.specs.Report.{lines_of_reading}
use Rattle.piton_words.specs.declared.word.Word.{Word}
use Rattle.piton_check.specs.Instruction.{SystemView}
use Rattle.piton_semantics.specs.{State.{PitonState, locals_of}, Fits.{system_in}, Addresses.{numbers}, Placed.{address_of_place}}
use Rattle.piton_semantics.specs.Placed.{addresses_of, areas_start, end_of}
use Rattle.level_debuggers.specs.{PitonLevels.{PitonLevelOf, piton_over}, Texts.{mark_text, no_mark}}

-- The elements of the stack stand below the end of memory, the bottom one at the highest address.
abbrev pub element_at : ℕ → List ℕ → ℕ → ℕ
element_at above elements address = slice_index elements (above - 1 - address)

-- the stack has an element for each item of a slot
abbrev pub covers : ℕ → List ℕ → Slot → Bool
covers above elements slot =
    nat_lt slot.address above && nat_le (above + item_count slot.shape) (slot.address + 1 + length elements)

-- so many elements, from an address downwards
abbrev pub elements_down : ℕ → List ℕ → ℕ → ℕ → List ℕ
elements_down above elements address zero = []
elements_down above elements address (suc n) = element_at above elements address ∷ elements_down above elements (address - 1) n

abbrev pub variable_at : ℕ → List ℕ → Slot → List ℕ × List Shown
variable_at above elements slot =
    (slot.name, map (item_of slot.shape.kind) (elements_down above elements slot.address (item_count slot.shape)))

-- the numbers of the stack's elements, from the bottom up
abbrev pub element_numbers : SystemView → PitonState → List ℕ
element_numbers s state = numbers (addresses_of s) (reverse state.stack)

-- the words of all areas, one area after the other
abbrev pub area_words : PitonState → List Word
area_words state = flat_map (λ area. area) state.areas

-- the number of the word that the areas have at an address, where they have one there
abbrev pub area_number : SystemView → PitonState → ℕ → Option ℕ
area_number s state address = word_at (areas_start s) (numbers (addresses_of s) (area_words state)) address

abbrev pub piton_reading_of : SystemView → ImageOf → PitonState → ReadingOf
piton_reading_of s image state = record {
  condition = option_map (λ address. condition_of image.conditions (unwrap_or (area_number s state address) 0)) image.condition_address;
  items = map (variable_at (end_of s) (element_numbers s state)) image.slots;
}

-- whether the stack has an element for each item of the image's slots
abbrev pub is_covered : PitonLevelOf → Bool
is_covered level =
    let s = system_in level.checked in
    list_all (covers (end_of s) (element_numbers s level.seen.state)) level.image.slots

-- at the end
abbrev pub piton_end : PitonLevelOf → List ℕ
piton_end level =
    if is_covered level
    then lines_of_reading level.image (piton_reading_of (system_in level.checked) level.image level.seen.state)
    else no_mark

-- Where a state stands, as the processor that stands for it: the address of its place, the areas, the newest frame's locals, and
-- the stack, whose bottom element is the last word of memory.
abbrev pub piton_at : SystemView → PitonState → StandingOf
piton_at s state = record {
  address = address_of_place s state.program state.place;
  word = area_number s state;
  local = slice_get (numbers (addresses_of s) (locals_of state.frames));
  below = slice_get (element_numbers s state);
}

unfoldable pub piton_up : PitonLevelOf → List ℕ
piton_up level =
    if piton_over level then piton_end level
    else mark_text (read_from level.image (piton_at (system_in level.checked) level.seen.state))
