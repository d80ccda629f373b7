-- The words of placed systems.
use Rattle.std.specs.Prelude.{◌≤◌, IsTrue}
use Rattle.fm_words.specs.WindowLimit.{most_window}
use Rattle.fm_image.specs.Spelling.{are_words}
use Rattle.piton_check.specs.{Instruction.{SystemView}, Sound.{IsSound}}
use Rattle.piton_semantics.specs.Placed.{placed}
use Rattle.piton_linker.specs.Layouts.{trimmed}

-- the registers and the words that an image of a sound system has are numbers of 32 bits
abbrev pub PlacedAreWords : Type 0
PlacedAreWords = (system : SystemView) → IsSound system → (placed system).size ≤ most_window →
    IsTrue (are_words (placed system).registers) × IsTrue (are_words (trimmed (placed system).words))
