-- Which commands have plans.
use Rattle.command_line.specs.{declared.command.Command.{Command}, declared.command.Command.TheVariants.{Debug, Pdebug, Idebug}}

-- a plan tells all that is left to do: it leaves no session
abbrev pub IsPlanned : Command → Type 0
IsPlanned (Debug level source values control temporary script) = ⊥
IsPlanned (Pdebug piton script) = ⊥
IsPlanned (Idebug image values script) = ⊥
IsPlanned _ = Unit {0}
