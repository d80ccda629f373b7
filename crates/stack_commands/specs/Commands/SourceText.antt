-- The text of a source, read and judged. What a command with such a text goes on with is the accepted source.
use Rattle.std.specs.Prelude.{ℕ, List, Result, Ok, Err}
use Rattle.gypsy_syntax.specs.{declared.proc.Source.{Source}, Sources.{SourceOf}, Views.SourceView.{source_of}}
use Rattle.stack_build.specs.{declared.fault.BuildFault.{BuildFault}, declared.fault.BuildFault.TheVariants.{Text, Form, Rule, Size}}
use Rattle.stack_build.specs.{declared.fault.BuildFault.TheVariants.{Control, Temporary, Words, Memory}, Build.{accepted_source}}
use Rattle.stack_build.specs.{declared.start_fault.StartFault.{StartFault}, declared.start_fault.StartFault.TheVariants.{Build, Values}}
use Rattle.command_replies.specs.{declared.reply.RuleLetter.TheVariants.{G, M, S}, declared.reply.Verdict.{Verdict}}
use Rattle.command_replies.specs.Replies.{text_rule_number}
use Rattle.command_replies.specs.declared.reply.SizeOf.TheVariants as size
use Rattle.command_replies.specs.declared.reply.Verdict.TheVariants as verdict

-- how a command ends where nothing is built; sizes that no stack has are no words of a command, and no definition runs out of memory
abbrev pub build_verdict : BuildFault → Verdict
build_verdict (Text rule place) = verdict.Refused G (text_rule_number rule) place
build_verdict (Form rule place) = verdict.Refused M rule place
build_verdict (Rule rule place) = verdict.Refused S rule place
build_verdict Size = verdict.Usage
build_verdict (Control need) = verdict.Size size.Control need
build_verdict (Temporary need) = verdict.Size size.Temporary need
build_verdict (Words count) = verdict.Size size.Words count
build_verdict Memory = verdict.Usage

-- how a command ends where a run of a source doesn't begin
abbrev pub start_verdict : StartFault → Verdict
start_verdict (Build fault) = build_verdict fault
start_verdict (Values rule place) = verdict.Values rule place

-- what was made, or how the command ends
abbrev pub unless_refused : {X : Type 0} → Result X BuildFault → Result X Verdict
unless_refused (Ok made) = Ok made
unless_refused (Err fault) = Err (build_verdict fault)

-- the accepted source of a text, or why the text is refused
unfoldable pub accepted_in : List ℕ → Result SourceOf Verdict
accepted_in text = unless_refused (accepted_source text)

-- what a call found, as the definition has it
abbrev pub found_source : Result Source Verdict → Result SourceOf Verdict
found_source (Ok source) = Ok (source_of source)
found_source (Err verdict) = Err verdict
