-- The command `asm`: the image of an assembly text.
use Rattle.std.specs.Prelude.{ℕ, List, Option, Some, None, Result, Ok, Err}
use Rattle.stack_text.specs.declared.breach.Breach.{Breach}
use Rattle.fm_image.specs.{Image.{ImageOf}, Spelling.{spelling}}
use Rattle.fm_asm.specs.Assembling.{assembly_of}
use Rattle.command_replies.specs.{declared.reply.RuleLetter.TheVariants.{A}, declared.reply.Verdict.TheVariants.{Refused}}
use Rattle.command_replies.specs.Replies.{ReplyOf, verdict_alone, built_reply}

abbrev pub assembled_stored : Result ImageOf Breach → Option (List ℕ)
assembled_stored (Ok image) = Some (spelling image)
assembled_stored (Err breach) = None

-- how many words the image's window has, or the rule that the text breaks, and where
abbrev pub assembled_reply : Result ImageOf Breach → ReplyOf
assembled_reply (Ok image) = built_reply image.size
assembled_reply (Err breach) = verdict_alone (Refused A breach.rule breach.place)

-- what is stored, and what is replied
abbrev pub asm_stored : List ℕ → Option (List ℕ)
asm_stored text = assembled_stored (assembly_of text)

abbrev pub asm_reply : List ℕ → ReplyOf
asm_reply text = assembled_reply (assembly_of text)
