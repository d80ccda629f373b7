-- The command `cert`: whether a certificate covers a source.
use Rattle.std.specs.Prelude.{ℕ, List, Bool, Result, Ok, Err, codes, if◌then◌else◌}
use Rattle.gypsy_syntax.specs.{Resolved.{procedure_names, program_of}, Sources.{SourceOf}}
use Rattle.gypsy_space.specs.Needs.{StackSizes, stack_sizes}
use Rattle.space_cert.specs.{Accepting.{is_covered}, CertText.{bounds_in}, Covers.{Bounds}}
use Rattle.stack_text.specs.Lines.{line}
use Rattle.command_replies.specs.{declared.reply.Verdict.{Verdict}, declared.reply.Verdict.TheVariants.{Certificate}, Replies.{ReplyOf}}
use Rattle.command_replies.specs.Replies.{verdict_alone, all_said}
use Rattle.stack_commands.specs.Commands.SourceText.{accepted_in}

abbrev pub yes_or_no : Bool → List ℕ
yes_or_no answer = if answer then line (codes "yes") else line (codes "no")

-- whether the bounds cover the source in stacks of these sizes, or the rule that the certificate breaks, and where
abbrev pub judged_reply : SourceOf → StackSizes → Result Bounds (ℕ × ℕ) → ReplyOf
judged_reply source sizes (Ok bounds) = all_said (yes_or_no (is_covered (program_of source) bounds sizes))
judged_reply source sizes (Err fault) = verdict_alone (Certificate fault.0 fault.1)

unfoldable pub certificate_reply : SourceOf → StackSizes → List ℕ → ReplyOf
certificate_reply source sizes text = judged_reply source sizes (bounds_in (procedure_names source) text)

-- the same of an accepted source, or why it is refused
abbrev pub cert_reply_by : Result SourceOf Verdict → StackSizes → List ℕ → ReplyOf
cert_reply_by (Ok source) sizes text = certificate_reply source sizes text
cert_reply_by (Err verdict) sizes text = verdict_alone verdict

-- the same of the texts of a source and of a certificate
abbrev pub cert_reply : List ℕ → List ℕ → ℕ → ℕ → ReplyOf
cert_reply source text control temporary = cert_reply_by (accepted_in source) (stack_sizes control temporary) text
