-- Quick images do what sources mean, in exactly the instructions that are counted for them.
use Rattle.std.specs.Prelude.{◌≡◌, ℕ, ◌+◌, ◌≤◌, ◌<◌, ◌^◌, List, length, Ok, Some, None}
use Rattle.stack_text.specs.Values.{ValueOf}
use Rattle.fm_machine.specs.{State.{Fm}, Run.{fm_run, Avoids, IsFirst}}
use Rattle.fm_loader.specs.Loaded.{loaded}
use Rattle.display_maps.specs.Reading.{reading}
use Rattle.gypsy_check.specs.Accepted.{IsAccepted}
use Rattle.gypsy_syntax.specs.{Programs.{Program, body_of, shapes_of, words_of}, Resolved.{program_of}, Sources.{SourceOf}}
use Rattle.gypsy_space.specs.Needs.{StackSizes, main_used}
use Rattle.gypsy_semantics.specs.{Calls.{CurrentCondition}, Counted.{instruction_count}, Meaning.{MeaningOutcome, Done, Unfinished}}
use Rattle.gypsy_semantics.specs.Meaning.{meaning}
use Rattle.stack_build.specs.{ComesTo.{ComesTo}, Implements.{meaning_shown, FitsFormals}}
use Rattle.quick_gypsy.specs.{Quick.{quick_cost}, InLine.{Nests, lined_main}, InLineRuns.{CanLine, lined_start, lined_outcome}}
use Rattle.quick_build.specs.QuickImage.{layout_in, condition_cell, final_of, most_nested, quick_main, quick_image}

-- an exit takes three instructions more
abbrev pub exit_cost : MeaningOutcome → ℕ
exit_cost (Done x None) = 0
exit_cost (Done x (Some c)) = 3
exit_cost Unfinished = 0

-- how many instructions a run takes, at a bound
abbrev pub program_cost : List ℕ → Program → StackSizes → ℕ → List ValueOf → ℕ → ℕ
program_cost vs q sizes end v n =
    let p = lined_main q sizes most_nested in
    quick_cost q sizes (layout_in vs p end) n p.body (main_used q) (lined_start q sizes most_nested v) +
    exit_cost (lined_outcome q sizes most_nested v n)

-- At most ten variables are chosen; calls nest no deeper than they may; the code lies below the condition's word, and the window's end is
-- a number of 32 bits.
pub record CanBeQuick (vs : List ℕ) (s : SourceOf) (sizes : StackSizes) (base end : ℕ) : Type 0 where
  pub ten : length vs ≤ 10
  pub nests : Nests (program_of s) sizes most_nested (main_used (program_of s)) (body_of (program_of s) (program_of s).main)
  pub room : final_of vs (quick_main s sizes) base end + 1 ≤ condition_cell (quick_main s sizes) end
  pub words : words_of (shapes_of (quick_main s sizes)) < end
  pub fits : end < 2 ^ 32

-- For each accepted source of this kind and all values: where the meaning is done, the machine that is loaded with the quick image and
-- the values first comes to the end after exactly the counted instructions, and its memory shows the meaning there.
abbrev pub QuickImagesImplement : Type 0
QuickImagesImplement = (vs : List ℕ) (s : SourceOf) (base end : ℕ) (sizes : StackSizes) (values finals : List ValueOf)
    (way : CurrentCondition) (bound : ℕ) → IsAccepted s → CanBeQuick vs s sizes base end → FitsFormals s values →
    meaning (program_of s) sizes values bound ≡ Done finals way →
    ComesTo (quick_image vs s sizes base end) values (program_cost vs (program_of s) sizes end values bound) (meaning_shown s finals way)

-- And that is no more than the counted instructions of the plain image.
abbrev pub QuickProgramsAreNoSlower : Type 0
QuickProgramsAreNoSlower = (vs : List ℕ) (q : Program) (end : ℕ) (sizes : StackSizes) (values : List ValueOf) (bound count : ℕ) →
    CanLine q sizes most_nested values → instruction_count q sizes values bound ≡ Some count →
    program_cost vs q sizes end values bound ≤ count

-- at least n instructions are made from the machine that is loaded, without an address outside, and its pc was never the final one before
pub record QuickGoesOn (vs : List ℕ) (s : SourceOf) (sizes : StackSizes) (base end : ℕ) (values : List ValueOf) (n : ℕ) : Type 0 where
  pub steps : ℕ
  pub state : Fm
  pub least : n ≤ steps
  pub runs : fm_run steps (loaded (quick_image vs s sizes base end) values) ≡ Ok state
  pub avoids : Avoids (loaded (quick_image vs s sizes base end) values) (quick_image vs s sizes base end).final_pc steps

-- a bound that is enough for so many instructions: it falls at each call too, and a call in line may take no instruction
abbrev pub bound_for : ℕ → ℕ
bound_for count = count + most_nested

-- Where the meaning isn't done at a bound that is enough for so many instructions, the machine doesn't come to the end within them: so
-- where it is done at no bound, it never comes there.
abbrev pub QuickImagesGoOn : Type 0
QuickImagesGoOn = (vs : List ℕ) (s : SourceOf) (base end : ℕ) (sizes : StackSizes) (values : List ValueOf) (n : ℕ) → IsAccepted s →
    CanBeQuick vs s sizes base end → FitsFormals s values → meaning (program_of s) sizes values (bound_for n) ≡ Unfinished →
    QuickGoesOn vs s sizes base end values n

-- the meaning is done with this count, and the memory of this state shows it
pub record QuickIsMeant (vs : List ℕ) (s : SourceOf) (base end : ℕ) (sizes : StackSizes) (values : List ValueOf) (count : ℕ)
    (state : Fm) : Type 0 where
  pub finals : List ValueOf
  pub way : CurrentCondition
  pub done : meaning (program_of s) sizes values (bound_for (count + 1)) ≡ Done finals way
  pub counted : program_cost vs (program_of s) sizes end values (bound_for (count + 1)) ≡ count
  pub reads : reading (quick_image vs s sizes base end) state ≡ meaning_shown s finals way

-- The other way round: wherever the machine that is loaded with values first comes to its end, the meaning is done.
abbrev pub QuickImagesEndAsMeant : Type 0
QuickImagesEndAsMeant = (vs : List ℕ) (s : SourceOf) (base end : ℕ) (sizes : StackSizes) (values : List ValueOf) (count : ℕ)
    (state : Fm) → IsAccepted s →
    CanBeQuick vs s sizes base end → FitsFormals s values →
    IsFirst (loaded (quick_image vs s sizes base end) values) (quick_image vs s sizes base end).final_pc count state →
    QuickIsMeant vs s base end sizes values count state
