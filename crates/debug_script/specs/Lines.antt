-- Lines.
use Rattle.std.specs.Prelude.{ℕ, List, Result, Err, if◌then◌else◌}
use Rattle.stack_text.specs.Lines.{is_plain_line}
use Rattle.debug_script.specs.{declared.fault.ScriptRule.{ScriptRule}, declared.command.Command.{Command}, Commands.{words_of, command_of}}
use Rattle.debug_script.specs.declared.fault.ScriptRule.TheVariants as rules

-- the command of a line, or the rule that the line breaks
unfoldable pub command_in : List ℕ → Result Command ScriptRule
command_in line = if is_plain_line line then command_of (words_of line) else Err rules.Bytes
