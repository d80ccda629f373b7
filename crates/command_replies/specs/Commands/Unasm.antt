-- The command `unasm`: the assembly text of a plain image.
use Rattle.std.specs.Prelude.{ℕ, List, Option, Some, None, Result, Ok, Err, if◌then◌else◌}
use Rattle.fm_image.specs.{Image.{ImageOf}, Reading.{read_of}}
use Rattle.fm_asm.specs.Printing.{is_plain, assembly_text}
use Rattle.command_replies.specs.{declared.reply.Verdict.TheVariants.{Image, NotPlain}, Replies.{ReplyOf, verdict_alone, written_reply}}

-- the text of an image, where it is plain
abbrev pub plain_stored : ImageOf → Option (List ℕ)
plain_stored image = if is_plain image then Some (assembly_text image) else None

abbrev pub plain_reply : List ℕ → ImageOf → ReplyOf
plain_reply name image = if is_plain image then written_reply name else verdict_alone NotPlain

abbrev pub printed_stored : Result ImageOf (ℕ × ℕ) → Option (List ℕ)
printed_stored (Ok image) = plain_stored image
printed_stored (Err fault) = None

-- under which name it was stored, that the image isn't plain, or the rule that the file breaks, and where
abbrev pub printed_reply : List ℕ → Result ImageOf (ℕ × ℕ) → ReplyOf
printed_reply name (Ok image) = plain_reply name image
printed_reply name (Err fault) = verdict_alone (Image fault.0 fault.1)

-- what is stored of the image that these bytes spell, and what is replied
abbrev pub unasm_stored : List ℕ → Option (List ℕ)
unasm_stored bytes = printed_stored (read_of bytes)

abbrev pub unasm_reply : List ℕ → List ℕ → ReplyOf
unasm_reply name bytes = printed_reply name (read_of bytes)
