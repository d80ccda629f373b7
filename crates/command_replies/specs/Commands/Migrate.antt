-- The command `migrate`.
use Rattle.std.specs.Prelude.{ℕ, List, Option, Some, None, Result, Ok, Err}
use Rattle.fm_image.specs.{Image.{ImageOf}, Limits.{in_version_2}, Reading.{read_of}, Spelling.{spelling}}
use Rattle.command_replies.specs.{declared.reply.Verdict.TheVariants.{Image}, Replies.{written_reply, ReplyOf, verdict_alone}}

-- what is stored: the file of the same image in version 2
abbrev pub migrated_stored : Result ImageOf (ℕ × ℕ) → Option (List ℕ)
migrated_stored (Err fault) = None
migrated_stored (Ok image) = Some (spelling (in_version_2 image))

-- under which name it was stored, or the rule that the file breaks, and where
abbrev pub migrated_reply : List ℕ → Result ImageOf (ℕ × ℕ) → ReplyOf
migrated_reply name (Err fault) = verdict_alone (Image fault.0 fault.1)
migrated_reply name (Ok image) = written_reply name

-- of the image that these bytes spell
abbrev pub migrate_stored : List ℕ → Option (List ℕ)
migrate_stored bytes = migrated_stored (read_of bytes)

abbrev pub migrate_reply : List ℕ → List ℕ → ReplyOf
migrate_reply name bytes = migrated_reply name (read_of bytes)
