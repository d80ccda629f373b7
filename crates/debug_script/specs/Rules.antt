-- The rules of scripts, in the order in which they are judged: too many bytes in a line or one out of place (D6), an unknown
-- command (D1), a wrong number of words (D2), no number in the range, no watch or no name (D3).
use Rattle.std.specs.Prelude.{ℕ}
use Rattle.debug_script.specs.declared.fault.ScriptRule.{ScriptRule}
use Rattle.debug_script.specs.declared.fault.ScriptRule.TheVariants as rules

-- the number of a rule, as a refusal says it
abbrev pub rule_number : ScriptRule → ℕ
rule_number rules.Bytes = 6
rule_number rules.UnknownCommand = 1
rule_number rules.WordCount = 2
rule_number rules.Argument = 3
