-- What a run of an image comes to.
use Rattle.std.specs.Prelude.{◌≡◌, ℕ, List}
use Rattle.stack_text.specs.Values.{ValueOf}
use Rattle.fm_machine.specs.{State.{Fm}, Run.{IsFirst}}
use Rattle.fm_image.specs.Image.{ImageOf}
use Rattle.fm_loader.specs.Loaded.{loaded}
use Rattle.display_maps.specs.Reading.{ReadingOf, reading}

-- The machine that is loaded with the values comes to the image's final program counter first after so many
-- instructions, and its memory is read as this there.
pub record ComesTo (image : ImageOf) (values : List ValueOf) (count : ℕ) (read : ReadingOf) : Type 0 where
  pub state : Fm
  pub first : IsFirst (loaded image values) image.final_pc count state
  pub reads : reading image state ≡ read
