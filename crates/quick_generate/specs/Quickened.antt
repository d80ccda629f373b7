-- The image that is stored of a source, its quick image if it has one and else its plain image, and how many instructions it takes.
use Rattle.std.specs.Prelude.{ℕ, List, Option, Some, None}
use Rattle.stack_text.specs.Values.{ValueOf}
use Rattle.fm_image.specs.Image.{ImageOf}
use Rattle.gypsy_syntax.specs.{Resolved.{program_of}, Sources.{SourceOf}}
use Rattle.gypsy_space.specs.Needs.{StackSizes}
use Rattle.gypsy_semantics.specs.Counted.{instruction_count}
use Rattle.quick_build.specs.{QuickImage.{quick_main}, QuickImplements.{program_cost}}
use Rattle.quick_generate.specs.{Choice.{chosen_of}, QuickOf.{quick_of, window_end}}

abbrev pub image_or : ImageOf → Option ImageOf → ImageOf
image_or plain (Some image) = image
image_or plain None = plain

-- the quick image of a source for stacks of these sizes, in the smallest window from the plain image's base on; and if there is none, the
-- plain image that was built of the source
unfoldable pub quickened : SourceOf → StackSizes → ImageOf → ImageOf
quickened s sizes plain = image_or plain (quick_of s sizes plain.base)

abbrev pub counted_by : SourceOf → StackSizes → ℕ → List ValueOf → ℕ → Option ImageOf → Option ℕ
counted_by s sizes base values bound (Some image) =
    let p = quick_main s sizes in
    Some (program_cost (chosen_of p) (program_of s) sizes (window_end (chosen_of p) p base) values bound)
counted_by s sizes base values bound None = instruction_count (program_of s) sizes values bound

-- how many instructions a run of it takes, at a bound of the meaning: those that are counted for the quick image, or for the plain one
unfoldable pub quick_count : SourceOf → StackSizes → ℕ → List ValueOf → ℕ → Option ℕ
quick_count s sizes base values bound = counted_by s sizes base values bound (quick_of s sizes base)
