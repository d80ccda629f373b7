-- What it is for the runs of an image to stay unfinished where the source never ends.
use Rattle.std.specs.Prelude.{◌≡◌, ℕ, List}
use Rattle.stack_text.specs.Values.{ValueOf}
use Rattle.fm_machine.specs.Outcome.{outcome}
use Rattle.fm_machine.specs.declared.processor.Run.TheVariants as run
use Rattle.fm_image.specs.Image.{ImageOf}
use Rattle.fm_loader.specs.Loaded.{loaded}
use Rattle.gypsy_syntax.specs.{Resolved.{program_of}, Sources.{SourceOf}}
use Rattle.gypsy_space.specs.Needs.{StackSizes}
use Rattle.gypsy_semantics.specs.Views.Moments.{NeverEnds}
use Rattle.stack_build.specs.Implements.{FitsFormals}

-- Where the source never ends on some values, a run of the image is unfinished at every budget.
abbrev pub StaysUnfinished : ImageOf → SourceOf → StackSizes → Type 0
StaysUnfinished image source sizes =
    (values : List ValueOf) (budget : ℕ) → FitsFormals source values → NeverEnds (program_of source) sizes values →
    (outcome budget image.final_pc (loaded image values)).run ≡ run.Spent
