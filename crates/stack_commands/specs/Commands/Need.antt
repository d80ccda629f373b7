-- The command `need`: the least certificate of a source, and the sizes of the stacks that it is enough for.
use Rattle.std.specs.{Prelude.{ℕ, List, [], ◌++◌, get_or, Option, Some, None, Result, Ok, Err, codes}, Fmt.{decimal}}
use Rattle.gypsy_syntax.specs.{Resolved.{procedure_names, program_of}, Sources.{SourceOf}}
use Rattle.gypsy_space.specs.Needs.{StackSizes}
use Rattle.space_cert.specs.{CertText.{certificate_text}, Certified.{certified}, Covers.{Bounds, sizes_for}}
use Rattle.stack_text.specs.Lines.{line}
use Rattle.command_replies.specs.{declared.reply.Verdict.{Verdict}, declared.reply.Verdict.TheVariants.{Recursive}, Replies.{ReplyOf}}
use Rattle.command_replies.specs.Replies.{verdict_alone, all_said}
use Rattle.stack_commands.specs.Commands.SourceText.{accepted_in}

-- the sizes of both stacks
abbrev pub sizes_text : StackSizes → List ℕ
sizes_text sizes = line (codes "control " ++ decimal sizes.ctrl) ++ line (codes "temporary " ++ decimal sizes.temp)

-- the text of the source's certificate
abbrev pub bounds_stored : SourceOf → Result Bounds ℕ → Option (List ℕ)
bounds_stored source (Ok bounds) = Some (certificate_text (procedure_names source) bounds)
bounds_stored source (Err procedure) = None

-- the sizes that it is enough for, or the procedure that reaches itself
abbrev pub bounds_reply : SourceOf → Result Bounds ℕ → ReplyOf
bounds_reply source (Ok bounds) = all_said (sizes_text (sizes_for (program_of source) bounds))
bounds_reply source (Err procedure) = verdict_alone (Recursive (get_or (procedure_names source) procedure []))

unfoldable pub certified_stored : SourceOf → Option (List ℕ)
certified_stored source = bounds_stored source (certified (program_of source))

unfoldable pub certified_reply : SourceOf → ReplyOf
certified_reply source = bounds_reply source (certified (program_of source))

abbrev pub need_stored_by : Result SourceOf Verdict → Option (List ℕ)
need_stored_by (Ok source) = certified_stored source
need_stored_by (Err verdict) = None

abbrev pub need_reply_by : Result SourceOf Verdict → ReplyOf
need_reply_by (Ok source) = certified_reply source
need_reply_by (Err verdict) = verdict_alone verdict

-- what is stored of a source's text, and what is replied
abbrev pub need_stored : List ℕ → Option (List ℕ)
need_stored text = need_stored_by (accepted_in text)

abbrev pub need_reply : List ℕ → ReplyOf
need_reply text = need_reply_by (accepted_in text)
