-- Lines that are opened when the first one is asked for.
use Rattle.std.specs.Prelude.{false}
use Rattle.stack_shelf.specs.System.{StdinLinesOf}
use Rattle.cli_stack.specs.{declared.late_lines.Opened.{Opened}, declared.late_lines.Opened.TheVariants.{No, Yes, Lost}}

-- what the lines keep; before they are opened they have counted nothing
abbrev pub late_lines : {R : Type 0} → Opened R → StdinLinesOf
late_lines (No stream) = record { over = false; faults = 0; overruns = 0 }
late_lines (Yes lines) = lines
late_lines (Lost faults) = record { over = false; faults = faults; overruns = 0 }
