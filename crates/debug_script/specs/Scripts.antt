-- Scripts.
use Rattle.std.specs.Prelude.{ℕ, ◌+◌, List, [], ◌∷◌, ◌++◌, map, Option, Some, None, Result, Ok, Err, option_to_list}
use Rattle.bstr.specs.Text.{lines_of, without_terminator}
use Rattle.stack_text.specs.Results.{◌>>=◌}
use Rattle.stack_text.specs.Gives as common
use Rattle.debug_script.specs.{declared.command.Command.{Command}, declared.fault.ScriptRule.{ScriptRule}}
use Rattle.debug_script.specs.{declared.fault.ScriptFault.{ScriptFault}, declared.fault.ScriptFault.TheVariants.{Refused, Memory}}
use Rattle.debug_script.specs.{declared.reading.Line.{Line}, Rules.{rule_number}, Lines.{command_in}}

-- the fault of a text that an error is; there is none where memory ran out
abbrev pub fault_of : ScriptFault → Option ScriptFault
fault_of Memory = None
fault_of fault = Some fault

-- exactly what the definition gives, unless memory was refused
abbrev pub GivesScriptUnless : {X Y : Type 0} → Type 0 → (X → Y) → Result X ScriptFault → Result Y ScriptFault → Type 0
GivesScriptUnless refused view result value = common.GivesUnless refused fault_of view result value

-- a command, or the rule that its line breaks, with the line's number
abbrev pub numbered : ℕ → Result Command ScriptRule → Result (Option Line) ScriptFault
numbered number (Ok command) = Ok (Some record { line = number; command = command })
numbered number (Err rule) = Err (Refused (rule_number rule) number)

-- an empty line has no command
unfoldable pub line_read : ℕ → List ℕ → Result (Option Line) ScriptFault
line_read number [] = Ok None
line_read number (byte ∷ bytes) = numbered number (command_in (byte ∷ bytes))

-- the commands of lines, where the first line has this number; the first line with a fault decides
unfoldable pub lines_read : ℕ → List (List ℕ) → Result (List Line) ScriptFault
lines_read number [] = Ok []
lines_read number (line ∷ lines) = do
  first ← line_read number line
  rest ← lines_read (number + 1) lines
  Ok (option_to_list first ++ rest)

-- A line ends at LF or at the text's end, and a CR right before the LF belongs to the line's end. Lines have numbers from 1.
abbrev pub script_of : List ℕ → Result (List Line) ScriptFault
script_of text = lines_read 1 (map without_terminator (lines_of text))
