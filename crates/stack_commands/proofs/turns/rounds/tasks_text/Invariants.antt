use Rattle.std.proofs.Common.{◌≡◌, ◌++◌, drop}
use Rattle.stack_commands.specs.Internal.Told.{told_from}
use Rattle.stack_commands.proofs.turns.rounds.tasks_text.Given as goal

-- the text so far, and that of the tasks that are left, are that of all
abbrev pub invariant-loop-i : goal.invariant-loop-i
invariant-loop-i g l = l.text.items ++ told_from l.budget l.turns l.i (drop l.i l.turns.contexts) ≡ told_from l.budget l.turns 0 l.turns.contexts
