-- The command `pbuild`.
use Rattle.std.specs.Prelude.{ℕ, List, Option, Some, None, Bool, Result, Ok, Err, nat_lt, if◌then◌else◌}
use Rattle.fm_words.specs.WindowLimit.{most_window}
use Rattle.fm_image.specs.Spelling.{spelling}
use Rattle.piton_check.specs.{PitonChecking.{CheckedOf}, Instruction.{SystemView}}
use Rattle.piton_semantics.specs.{Fits.{system_in}, Placed.{placed}}
use Rattle.stack_build.specs.Image.{linked_image}
use Rattle.command_replies.specs.{declared.reply.SizeOf.TheVariants.{Words}, declared.reply.Verdict.{Verdict}}
use Rattle.command_replies.specs.{declared.reply.Verdict.TheVariants.{Size}, Replies.{ReplyOf, verdict_alone, built_reply}}
use Rattle.command_replies.specs.Commands.PitonText.{checked_in}

-- more words than a window has
abbrev pub is_large : SystemView → Bool
is_large system = nat_lt most_window (placed system).size

abbrev pub linked_stored : SystemView → Option (List ℕ)
linked_stored system = if is_large system then None else Some (spelling (linked_image system))

abbrev pub linked_reply : SystemView → ReplyOf
linked_reply system =
    if is_large system then verdict_alone (Size Words (placed system).size) else built_reply (linked_image system).size

abbrev pub checked_stored : Result CheckedOf Verdict → Option (List ℕ)
checked_stored (Ok checked) = linked_stored (system_in checked)
checked_stored (Err verdict) = None

abbrev pub checked_reply : Result CheckedOf Verdict → ReplyOf
checked_reply (Ok checked) = linked_reply (system_in checked)
checked_reply (Err verdict) = verdict_alone verdict

-- what is stored, and what is replied
abbrev pub pbuild_stored : List ℕ → Option (List ℕ)
pbuild_stored text = checked_stored (checked_in text)

abbrev pub pbuild_reply : List ℕ → ReplyOf
pbuild_reply text = checked_reply (checked_in text)
