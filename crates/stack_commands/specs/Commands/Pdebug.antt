-- The command `pdebug`: a session that begins where the run of `prun` does.
use Rattle.std.specs.Prelude.{ℕ, List, Result, Ok, Err, if◌then◌else◌}
use Rattle.stack_text.specs.Results.{◌>>=◌}
use Rattle.piton_check.specs.PitonChecking.{CheckedOf}
use Rattle.piton_semantics.specs.{Fits.{system_in}, Placed.{placed}, StateView.{opening}}
use Rattle.stack_build.specs.Image.{linked_image}
use Rattle.level_debuggers.specs.{Levels.{LevelOf, Piton}, Tallies.{Watching}}
use Rattle.command_replies.specs.{declared.reply.SizeOf.TheVariants.{Words}, declared.reply.Verdict.{Verdict}}
use Rattle.command_replies.specs.{declared.reply.Verdict.TheVariants.{Size}, Replies.{ReplyOf}, Commands.PitonText.{checked_in}}
use Rattle.stack_commands.specs.{Commands.Pbuild.{is_large}, Commands.Debug.{session_reply}}

-- a checked system in its opening state, with the image that is linked from it
abbrev pub opened : CheckedOf → LevelOf
opened checked =
    let system = system_in checked in
    Piton record { checked = checked; image = linked_image system; seen = opening system system.stack }

-- the same, or that the system has more words than a window
abbrev pub opened_within : CheckedOf → Result LevelOf Verdict
opened_within checked =
    let system = system_in checked in if is_large system then Err (Size Words (placed system).size) else Ok (opened checked)

-- of the system in a text, or why the text is refused
unfoldable pub piton_run_in : List ℕ → Result LevelOf Verdict
piton_run_in text = checked_in text >>= opened_within

-- what the session replies to the script
abbrev pub pdebug_reply : List ℕ → List ℕ → List Watching → ReplyOf
pdebug_reply piton script watches = session_reply (piton_run_in piton) watches script
