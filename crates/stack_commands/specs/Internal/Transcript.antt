-- What a script has said and a sink has taken.
use Rattle.std.specs.Prelude.{◌≡◌, ℕ, List, Option}
use Rattle.stack_shelf.specs.Shelf.{appended}
use Rattle.command_line.specs.Devices.{lines_of, took_each}
use Rattle.level_debuggers.specs.{declared.script_end.ScriptEnd.{ScriptEnd}, Transcripts.{Followed}, Walks.{SessionOf}}

-- all that a script said was printed, each of its lines by a put of its own; this is how it ended, and the session that is left
pub record AllPrinted {K : Type 0} (put : K → List ℕ → K) (before after : K) (taken_before taken_after : Option (List ℕ)) (made : Followed)
    (end : ScriptEnd) (session : SessionOf) : Type 0 where
  pub ends : made.end ≡ end
  pub leaves : made.session ≡ session
  pub text : taken_after ≡ appended taken_before made.text
  pub took : after ≡ took_each put before (lines_of made.text)
