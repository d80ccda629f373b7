-- A Piton text, read and judged. What a command with such a text goes on with is the checked system.
use Rattle.std.specs.Prelude.{ℕ, List, Option, Some, None, Result, Ok, Err}
use Rattle.stack_text.specs.{declared.breach.Breach.{Breach}, Breaches.{least}}
use Rattle.piton_syntax.specs.{declared.fault.PitonFault.{PitonFault}, declared.fault.PitonFault.TheVariants.{Text, Form, Memory}}
use Rattle.piton_syntax.specs.{PitonReading.{piton_in}, Systems.{SystemOf}}
use Rattle.piton_check.specs.{PitonChecking.{CheckedOf}, Resolved.{resolved}, Violations.{violations}}
use Rattle.command_replies.specs.{declared.reply.RuleLetter.TheVariants.{G, P, Q}, declared.reply.Verdict.{Verdict}}
use Rattle.command_replies.specs.{declared.reply.Verdict.TheVariants.{Usage, Refused}, Replies.{text_rule_number}}

-- why a text is no system: a rule of the form of texts, or of that of systems; `piton_in` never runs out of memory
abbrev pub piton_verdict : PitonFault → Verdict
piton_verdict (Text rule place) = Refused G (text_rule_number rule) place
piton_verdict (Form rule place) = Refused P rule place
piton_verdict Memory = Usage

-- a system that breaks no static rule, with its names resolved, or the least breach
abbrev pub checked_unless : SystemOf → Option Breach → Result CheckedOf Verdict
checked_unless system None = Ok (record { system = system; resolved = resolved system })
checked_unless system (Some breach) = Err (Refused Q breach.rule breach.place)

abbrev pub checked_by : Result SystemOf PitonFault → Result CheckedOf Verdict
checked_by (Ok system) = checked_unless system (least (violations system))
checked_by (Err fault) = Err (piton_verdict fault)

-- the checked system of a text, or why the text is refused
unfoldable pub checked_in : List ℕ → Result CheckedOf Verdict
checked_in text = checked_by (piton_in text)
