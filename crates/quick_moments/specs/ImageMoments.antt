-- The moments of a quick image: from the machine that is loaded with it and values, to the end.
use Rattle.std.specs.Prelude.{◌≡◌, ℕ, ◌+◌, List, [], ◌∷◌, None}
use Rattle.stack_text.specs.Values.{ValueOf}
use Rattle.fm_machine.specs.{State.{Fm}, Run.{IsFirst}}
use Rattle.fm_loader.specs.Loaded.{loaded}
use Rattle.gypsy_check.specs.Accepted.{IsAccepted}
use Rattle.gypsy_syntax.specs.{Programs.{Proc, Program, proc_at, body_of, shapes_of}, Resolved.{program_of}, Sources.{SourceOf}}
use Rattle.gypsy_space.specs.{Costs.{Tally}, Needs.{StackSizes}}
use Rattle.gypsy_semantics.specs.{Calls.{CurrentCondition}, Machine.{Ended, start}, Meaning.{Done, meaning}, Views.Moments.{moment_from}}
use Rattle.stack_build.specs.Implements.{FitsFormals}
use Rattle.quick_gypsy.specs.Quick.{IsPlain}
use Rattle.quick_build.specs.QuickImage.{layout_in, register_table, exit_place, final_of, quick_main, quick_image, quick_parts}
use Rattle.quick_build.specs.QuickImplements.{exit_cost, CanBeQuick, QuickIsMeant}
use Rattle.quick_moments.specs.{QuickShows.{Site}, QuickSteps.{ComesToMove, quick_cost_to, under_way_at}}

-- the source's main with its calls in line, as a program of its own
abbrev pub quick_program : SourceOf → StackSizes → Program
quick_program s sizes = record { main = 0; procs = quick_main s sizes ∷ [] }

-- the code of a quick image in memory, whose condition word says normal until main has ended
abbrev pub quick_site : List ℕ → Proc → ℕ → ℕ → Site
quick_site vs p base end = record {
  parts = quick_parts vs p base end;
  table = register_table vs p end;
  layout = layout_in vs p end;
  targets = exit_place base p.conds;
  end = final_of vs p base end;
  ctrl = [];
  areas = 2 ∷ [];
}

-- how many instructions the first j steps from these values take
abbrev pub image_cost_to : List ℕ → SourceOf → StackSizes → ℕ → List ValueOf → ℕ → ℕ
image_cost_to vs s sizes end values j =
    let q = quick_program s sizes in
    quick_cost_to q sizes (layout_in vs (quick_main s sizes) end) j None (start q values)

-- For each accepted source and all values: each moment of main with its calls in line is one of the loaded machine, after the sum of what
-- the steps up to it take.
abbrev pub QuickImagesShow : Type 0
QuickImagesShow = (vs : List ℕ) (s : SourceOf) (base end : ℕ) (sizes : StackSizes) (values : List ValueOf) (j : ℕ) → IsAccepted s →
    CanBeQuick vs s sizes base end → FitsFormals s values →
    ComesToMove (quick_site vs (quick_main s sizes) base end) (quick_program s sizes) (image_cost_to vs s sizes end values j)
    (loaded (quick_image vs s sizes base end) values)
    (under_way_at (quick_program s sizes) sizes j None (start (quick_program s sizes) values))
    (moment_from (quick_program s sizes) sizes values j)

-- If main calls no procedure of the source, the moments are those of the source itself.
abbrev pub QuickImagesFollow : Type 0
QuickImagesFollow = (vs : List ℕ) (s : SourceOf) (base end : ℕ) (sizes : StackSizes) (values : List ValueOf) (j : ℕ) → IsAccepted s →
    CanBeQuick vs s sizes base end → FitsFormals s values →
    IsPlain (shapes_of (proc_at (program_of s) (program_of s).main)) (body_of (program_of s) (program_of s).main) →
    ComesToMove (quick_site vs (quick_main s sizes) base end) (program_of s)
    (quick_cost_to (program_of s) sizes (layout_in vs (quick_main s sizes) end) j None (start (program_of s) values))
    (loaded (quick_image vs s sizes base end) values) (under_way_at (program_of s) sizes j None (start (program_of s) values))
    (moment_from (program_of s) sizes values j)

-- If the source's meaning is done, so is this run of the step machine, with the same values and condition.
abbrev pub QuickRunsEnd : Type 0
QuickRunsEnd = (vs : List ℕ) (s : SourceOf) (base end : ℕ) (sizes : StackSizes) (values finals : List ValueOf) (way : CurrentCondition)
    (bound : ℕ) → IsAccepted s → CanBeQuick vs s sizes base end → FitsFormals s values →
    meaning (program_of s) sizes values bound ≡ Done finals way →
    (j : ℕ) × (t : Tally) × (moment_from (quick_program s sizes) sizes values j ≡ Ended finals way t)

-- The machine first comes to its end after so many instructions. Then the source's meaning is done, with this count and with these values
-- and this condition.
pub record EndsAfter (vs : List ℕ) (s : SourceOf) (base end : ℕ) (sizes : StackSizes) (values finals : List ValueOf)
    (way : CurrentCondition) (count : ℕ) : Type 0 where
  pub state : Fm
  pub first : IsFirst (loaded (quick_image vs s sizes base end) values) (quick_image vs s sizes base end).final_pc count state
  pub meant : QuickIsMeant vs s base end sizes values count state
  pub finals_are : meant.finals ≡ finals
  pub way_is : meant.way ≡ way

-- And if the step machine ends the run, the sum over all its steps, with what an exit takes, is the cost of the program.
abbrev pub QuickSumsAreCosts : Type 0
QuickSumsAreCosts = (vs : List ℕ) (s : SourceOf) (base end : ℕ) (sizes : StackSizes) (values finals : List ValueOf)
    (way : CurrentCondition) (t : Tally) (j : ℕ) → IsAccepted s → CanBeQuick vs s sizes base end → FitsFormals s values →
    moment_from (quick_program s sizes) sizes values j ≡ Ended finals way t →
    EndsAfter vs s base end sizes values finals way (image_cost_to vs s sizes end values j + exit_cost (Done finals way))
