-- The ends of a command, with their exit statuses and their lines.
use Rattle.std.specs.{Prelude.{ℕ, List, [], ◌++◌, Option, None, Result, Ok, Err, codes}, Option.{option_map}, Fmt.{decimal}}
use Rattle.fm_machine.specs.State.{Fm, MachineOf}
use Rattle.fm_show.specs.Digits.{hex_digits}
use Rattle.piton_semantics.specs.declared.error_kind.ErrorKind.{ErrorKind}
use Rattle.piton_semantics.specs.declared.error_kind.ErrorKind.TheVariants as kind
use Rattle.stack_text.specs.{declared.text_fault.TextRule.{TextRule}, Lines.{line}}
use Rattle.stack_text.specs.declared.text_fault.TextRule.TheVariants as text
use Rattle.command_line.specs.declared.status.Status.{Status}
use Rattle.command_line.specs.declared.status.Status.TheVariants as status
use Rattle.command_replies.specs.{declared.reply.RuleLetter.{RuleLetter}, declared.reply.RuleLetter.TheVariants.{G, M, S, P, Q, A, Y}}
use Rattle.command_replies.specs.{declared.reply.SizeOf.{SizeOf}, declared.reply.SizeOf.TheVariants.{Control, Temporary, Words}}
use Rattle.command_replies.specs.{declared.reply.Verdict.{Verdict}, declared.reply.Verdict.TheVariants.{Done, Usage, Refused, Values}}
use Rattle.command_replies.specs.declared.reply.Verdict.TheVariants.{Image, Unfinished, Outside, Error, Script, NotPlain, Recursive}
use Rattle.command_replies.specs.{declared.reply.Verdict.TheVariants.{Certificate, Size, SomeUnfinished}, declared.reply.Reply.{Reply}}

-- the letter of a rule
abbrev pub letter_text : RuleLetter → List ℕ
letter_text G = codes "G"
letter_text M = codes "M"
letter_text S = codes "S"
letter_text P = codes "P"
letter_text Q = codes "Q"
letter_text A = codes "A"
letter_text Y = codes "Y"

-- the number of a rule of the form of texts, whose letter is G
abbrev pub text_rule_number : TextRule → ℕ
text_rule_number text.G1 = 1
text_rule_number text.G2 = 2
text_rule_number text.G3 = 3
text_rule_number text.G4 = 4
text_rule_number text.G5 = 5
text_rule_number text.G6 = 6

-- what a size is of
abbrev pub size_of_text : SizeOf → List ℕ
size_of_text Control = codes "control"
size_of_text Temporary = codes "temporary"
size_of_text Words = codes "words"

-- why a step of Piton is refused
abbrev pub kind_text : ErrorKind → List ℕ
kind_text kind.TempEmpty = codes "temp-empty"
kind_text kind.Tag = codes "tag"
kind_text kind.Range = codes "range"
kind_text kind.TempFull = codes "temp-full"
kind_text kind.CtrlFull = codes "ctrl-full"

abbrev pub status_of : Verdict → Status
status_of Done = status.Done
status_of Usage = status.Usage
status_of (Refused letter number place) = status.Refused
status_of (Values rule place) = status.Values
status_of (Image rule place) = status.Image
status_of (Unfinished limit) = status.Unfinished
status_of SomeUnfinished = status.Unfinished
status_of (Outside address count) = status.Outside
status_of (Error kind program place count) = status.Error
status_of (Script rule number) = status.Script
status_of NotPlain = status.NotPlain
status_of (Recursive procedure) = status.Recursive
status_of (Certificate rule place) = status.Certificate
status_of (Size of need) = status.Size

-- the last line; a command that came to its defined end, or told of each task, has said all
abbrev pub verdict_line : Verdict → List ℕ
verdict_line Done = []
verdict_line Usage = line (codes "usage")
verdict_line (Refused letter number place) =
    line (codes "refused " ++ letter_text letter ++ decimal number ++ codes " at " ++ decimal place)
verdict_line (Values rule place) = line (codes "values V" ++ decimal rule ++ codes " at " ++ decimal place)
verdict_line (Image rule place) = line (codes "image I" ++ decimal rule ++ codes " at " ++ decimal place)
verdict_line SomeUnfinished = []
verdict_line (Unfinished limit) = line (codes "unfinished " ++ decimal limit)
verdict_line (Outside address count) = line (codes "outside " ++ hex_digits address ++ codes " after " ++ decimal count)
verdict_line (Error kind program place count) =
    line (codes "error " ++ kind_text kind ++ codes " at " ++ program ++ codes " " ++ decimal place ++ codes " after " ++ decimal count)
verdict_line (Script rule number) = line (codes "script D" ++ decimal rule ++ codes " at line " ++ decimal number)
verdict_line NotPlain = line (codes "not plain")
verdict_line (Recursive procedure) = line (codes "recursive " ++ procedure)
verdict_line (Certificate rule place) = line (codes "certificate Z" ++ decimal rule ++ codes " at " ++ decimal place)
verdict_line (Size of need) = line (codes "size " ++ size_of_text of ++ codes " " ++ decimal need)

-- what a command replies: what it says before its last line, how it ended, and the state of the machine that was run
pub record ReplyOf : Type 0 where
  pub said : List ℕ
  pub verdict : Verdict
  pub state : Option Fm

abbrev pub reply_of : Reply → ReplyOf
reply_of reply =
    record { said = reply.said; verdict = reply.verdict; state = option_map (λ (machine : MachineOf). machine.state) reply.machine }

-- a verdict alone
abbrev pub verdict_alone : Verdict → ReplyOf
verdict_alone verdict = record { said = []; verdict = verdict; state = None }

-- a text, after which the command came to its defined end
abbrev pub all_said : List ℕ → ReplyOf
all_said text = record { said = text; verdict = Done; state = None }

-- that a text was accepted, or why it is refused
abbrev pub judgement_reply : {X : Type 0} → Result X Verdict → ReplyOf
judgement_reply (Ok accepted) = all_said (line (codes "ok"))
judgement_reply (Err verdict) = verdict_alone verdict

-- all that a reply prints
abbrev pub reply_text : ReplyOf → List ℕ
reply_text reply = reply.said ++ verdict_line reply.verdict

-- how many words an image's window has
abbrev pub built_reply : ℕ → ReplyOf
built_reply size = all_said (line (codes "built " ++ decimal size))

-- under which name a file was stored
abbrev pub written_reply : List ℕ → ReplyOf
written_reply name = all_said (line (codes "written " ++ name))
