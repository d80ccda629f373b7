-- What memory shows at the end of a run, and that a run doesn't end.
use Rattle.std.specs.Prelude.{◌≡◌, ℕ, List}
use Rattle.stack_text.specs.Values.{ValueOf}
use Rattle.fm_machine.specs.Outcome.{outcome}
use Rattle.fm_machine.specs.declared.processor.Run.TheVariants as run
use Rattle.fm_image.specs.Image.{ImageOf}
use Rattle.fm_loader.specs.Loaded.{loaded}
use Rattle.display_maps.specs.Reading.{ReadingOf}
use Rattle.stack_build.specs.ComesTo.{ComesTo}

-- The machine that is loaded with the values comes to the image's final program counter, and its memory is read as this there.
pub record Shows (image : ImageOf) (values : List ValueOf) (read : ReadingOf) : Type 0 where
  pub count : ℕ
  pub comes : ComesTo image values count read

-- The machine that is loaded with the values is unfinished at every budget.
abbrev pub RunsOn : ImageOf → List ValueOf → Type 0
RunsOn image values = (budget : ℕ) → (outcome budget image.final_pc (loaded image values)).run ≡ run.Spent
