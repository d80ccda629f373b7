-- How a run of an image on values ends.
use Rattle.std.specs.Prelude.{ℕ, List, Result, Ok}
use Rattle.stack_text.specs.{Results.{◌>>=◌}, Values.{ValueOf}}
use Rattle.fm_machine.specs.{State.{Fm}, Outcome.{RunOutcome, outcome}, declared.processor.Run.{Run}}
use Rattle.fm_machine.specs.declared.processor.Run.TheVariants.{Ended, Spent, Outside as NeedsOutside}
use Rattle.fm_image.specs.Image.{ImageOf}
use Rattle.fm_loader.specs.{Loaded.{loaded}, Rules.{Fault}, Values.{values_in}}
use Rattle.display_maps.specs.{declared.ending.Ending.{Ending}, declared.ending.Ending.TheVariants.{Finished, Unfinished, Outside}}
use Rattle.display_maps.specs.Reading.{reading}

-- at its end memory is read
unfoldable pub ending_of : ImageOf → Run → Fm → Ending
ending_of image (Ended count) state = Finished count (reading image state)
ending_of image Spent state = Unfinished
ending_of image (NeedsOutside address count) state = Outside address count

-- the end of a run of at most so many instructions, on values of the image's slots
abbrev pub run_with : ImageOf → List ValueOf → ℕ → Ending
run_with image values budget =
    let end : RunOutcome = outcome budget image.final_pc (loaded image values) in
    ending_of image end.run end.state

-- the same on the values that a text gives the slots, or the rule that the text breaks, and where
unfoldable pub run_on : ImageOf → List ℕ → ℕ → Result Ending Fault
run_on image text budget = values_in image.slots text >>= λ values. Ok (run_with image values budget)
