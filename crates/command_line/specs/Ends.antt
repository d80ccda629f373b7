-- Ends of a command before there is a reply, with their exit statuses and their lines.
use Rattle.std.specs.{Prelude.{ℕ, List, [], ◌++◌, codes}, Fmt.{decimal}}
use Rattle.stack_text.specs.Lines.{line}
use Rattle.command_line.specs.{declared.early_end.EarlyEnd.{EarlyEnd}, declared.early_end.EarlyEnd.TheVariants.{Missing, TooLong}}
use Rattle.command_line.specs.{declared.early_end.EarlyEnd.TheVariants.{ShelfFault, OutOfMemory}, declared.status.Status.{Status}}
use Rattle.command_line.specs.declared.status.Status.TheVariants as status

abbrev pub end_status : EarlyEnd → Status
end_status (Missing name) = status.Missing
end_status (TooLong limit) = status.Size
end_status (ShelfFault name) = status.ShelfFault
end_status OutOfMemory = status.OutOfMemory

abbrev pub end_line : EarlyEnd → List ℕ
end_line (Missing name) = line (codes "missing " ++ name)
end_line (TooLong limit) = line (codes "size file " ++ decimal limit)
end_line (ShelfFault name) = line (codes "shelf fault " ++ name)
end_line OutOfMemory = []
