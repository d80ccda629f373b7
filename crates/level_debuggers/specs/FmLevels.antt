-- Runs of the processor.
use Rattle.std.specs.Prelude.{ℕ, zero, suc, List, [], ◌++◌, ◌+◌, ◌-◌, ◌%◌, ◌^◌, Bool, ◌==◌, ◌&&◌, nat_le, if◌then◌else◌, slice_index}
use Rattle.std.specs.Prelude.{Option, Some, None, Result, Ok, Err, codes}
use Rattle.stack_text.specs.Lines.{line}
use Rattle.fm_show.specs.Digits.{hex_digits}
use Rattle.fm_machine.specs.{declared.fault.Outside.{Outside}, State.{Fm}, Step.{fm_step}, Run.{pc_of}}
use Rattle.fm_image.specs.Image.{ImageOf}
use Rattle.display_maps.specs.{Reading.{reading, word_in}, ReadingAt.{reading_at}, Report.{lines_of_reading}}
use Rattle.level_debuggers.specs.{declared.watch.Event.{Event}, Texts.{mark_text}, Steps.{Next, Over, Stops, Makes}}
use Rattle.level_debuggers.specs.declared.advance.Stop.TheVariants as stop

-- an image, and a machine that runs it
pub record FmLevelOf : Type 0 where
  pub image : ImageOf
  pub state : Fm

-- the end of the window less r2, where r2 is in the window or just past it
abbrev pub fm_depth : FmLevelOf → ℕ
fm_depth level =
    let above = level.image.base + level.image.size in
    let top = slice_index level.state.registers 2 in
    if nat_le level.image.base top && nat_le top above then above - top else 0

abbrev pub fm_event : FmLevelOf → Event
fm_event level = record { place = pc_of level.state; depth = fm_depth level; cost = 1 }

abbrev pub fm_over : FmLevelOf → Bool
fm_over level = pc_of level.state == level.image.final_pc

abbrev pub fm_after : FmLevelOf → Result Fm Outside → Next FmLevelOf
fm_after level (Ok state) = Makes (fm_event level) (record level { state = state })
fm_after level (Err outside) = Stops (stop.Outside outside.address)

-- over where r15 is the final program counter; or else the instruction at r15
abbrev pub fm_next : FmLevelOf → Next FmLevelOf
fm_next level = if fm_over level then Over else fm_after level (fm_step level.state)

-- r15 has this address
abbrev pub fm_stands : FmLevelOf → ℕ → Bool
fm_stands level address = pc_of level.state == address

-- what the memory says: at the end of the image's slots, and before it at a mark
abbrev pub fm_up : FmLevelOf → List ℕ
fm_up level =
    if fm_over level then lines_of_reading level.image (reading level.image level.state)
    else mark_text (reading_at level.image level.state)

-- `000003ba 00000001`, or `00000400 outside` where that address is outside the window
abbrev pub word_line : ℕ → Option ℕ → List ℕ
word_line address (Some word) = line (hex_digits address ++ codes " " ++ hex_digits word)
word_line address None = line (hex_digits address ++ codes " outside")

-- so many words from an address on, each on its line; behind the last address of 32 bits comes 0
unfoldable pub word_lines : Fm → ℕ → ℕ → List ℕ
word_lines state address zero = []
word_lines state address (suc n) =
    let last = (address + n) % 2 ^ 32 in word_lines state address n ++ word_line last (word_in state last)
