-- The command `idebug`: a session of the machine with which `run` begins.
use Rattle.std.specs.Prelude.{ℕ, List, Result, Ok, Err}
use Rattle.stack_text.specs.Values.{ValueOf}
use Rattle.fm_image.specs.{Image.{ImageOf}, Reading.{read_of}}
use Rattle.fm_loader.specs.{Loaded.{loaded}, Values.{values_in}}
use Rattle.level_debuggers.specs.{Levels.{LevelOf, Fm}, Tallies.{Watching}}
use Rattle.command_replies.specs.{declared.reply.Verdict.{Verdict}, declared.reply.Verdict.TheVariants.{Values, Image}, Replies.{ReplyOf}}
use Rattle.stack_commands.specs.Commands.Debug.{session_reply}

-- the machine that is loaded with an image and these values, or the rule that the values break, and where
abbrev pub loaded_run : ImageOf → Result (List ValueOf) (ℕ × ℕ) → Result LevelOf Verdict
loaded_run image (Err fault) = Err (Values fault.0 fault.1)
loaded_run image (Ok values) = Ok (Fm record { image = image; state = loaded image values })

-- the same on the values of a text, or the rule that the image breaks, and where
abbrev pub read_run : List ℕ → Result ImageOf (ℕ × ℕ) → Result LevelOf Verdict
read_run values (Err fault) = Err (Image fault.0 fault.1)
read_run values (Ok image) = loaded_run image (values_in image.slots values)

-- of the image that these bytes spell
abbrev pub image_run_in : List ℕ → List ℕ → Result LevelOf Verdict
image_run_in bytes values = read_run values (read_of bytes)

-- what the session replies to the script
abbrev pub idebug_reply : List ℕ → List ℕ → List ℕ → List Watching → ReplyOf
idebug_reply image values script watches = session_reply (image_run_in image values) watches script
