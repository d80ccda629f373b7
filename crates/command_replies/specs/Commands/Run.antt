-- A run of an image on values, and the command `run`.
use Rattle.std.specs.Prelude.{ℕ, List, [], Some, Result, Ok, Err}
use Rattle.stack_text.specs.Values.{ValueOf}
use Rattle.fm_machine.specs.{Outcome.{RunOutcome, outcome}, State.{Fm}, declared.processor.Run.{Run}}
use Rattle.fm_machine.specs.declared.processor.Run.TheVariants as run
use Rattle.fm_image.specs.{Image.{ImageOf}, Reading.{read_of}}
use Rattle.fm_loader.specs.{Loaded.{loaded}, Values.{values_in}}
use Rattle.display_maps.specs.{Reading.{reading}, Report.{report_text}}
use Rattle.command_replies.specs.{declared.reply.Verdict.TheVariants.{Done, Values, Image, Unfinished, Outside}, Replies.{ReplyOf}}
use Rattle.command_replies.specs.Replies.{verdict_alone}

-- how a run ended, and the report where it came to the image's final program counter
abbrev pub end_reply : ImageOf → ℕ → Run → Fm → ReplyOf
end_reply image budget (run.Ended count) s =
    record { said = report_text image (reading image s) count; verdict = Done; state = Some s }
end_reply image budget run.Spent s = record { said = []; verdict = Unfinished budget; state = Some s }
end_reply image budget (run.Outside address count) s =
    record { said = []; verdict = Outside address count; state = Some s }

abbrev pub outcome_reply : ImageOf → ℕ → RunOutcome → ReplyOf
outcome_reply image budget ended = end_reply image budget ended.run ended.state

-- the run of the image on these values
unfoldable pub run_reply : ImageOf → List ValueOf → ℕ → ReplyOf
run_reply image values budget = outcome_reply image budget (outcome budget image.final_pc (loaded image values))

-- the same, or the rule that the values break, and where
abbrev pub values_reply : ImageOf → ℕ → Result (List ValueOf) (ℕ × ℕ) → ReplyOf
values_reply image budget (Err fault) = verdict_alone (Values fault.0 fault.1)
values_reply image budget (Ok values) = run_reply image values budget

-- the same, or the rule that the image breaks, and where
abbrev pub image_reply : List ℕ → ℕ → Result ImageOf (ℕ × ℕ) → ReplyOf
image_reply values budget (Err fault) = verdict_alone (Image fault.0 fault.1)
image_reply values budget (Ok image) = values_reply image budget (values_in image.slots values)

-- the run of the image that these bytes spell, on the values of a text
abbrev pub image_file_reply : List ℕ → List ℕ → ℕ → ReplyOf
image_file_reply bytes values budget = image_reply values budget (read_of bytes)
