use Rattle.std.proofs.Common.{◌≡◌, ◌++◌, take, map}
use Rattle.piton_check.specs.Instruction.{system_view}
use Rattle.piton_semantics.specs.StateView.{words_in}
use Rattle.piton_linker.specs.Tables.{areas_words}
use Rattle.piton_linker.proofs.data.append_areas.Given as goal

-- the words of the areas so far
abbrev pub invariant-loop-area : goal.invariant-loop-area
invariant-loop-area g l = l.words.items ≡ l.fn.words.items ++ areas_words (system_view l.checked) (take l.area-index (map words_in l.areas))
