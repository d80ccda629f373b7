use Rattle.std.proofs.Common.{◌≡◌, ◌-◌}
use Rattle.command_line.{specs.CommandWords.{spelled, tasks_within}, proofs.TaskWordLaws.with_tasks}
use Rattle.command_line.proofs.words.reader.tasks_within.Given as goal

-- the tasks so far, and those of the words that are left, are all
abbrev pub invariant-loop : goal.invariant-loop
invariant-loop g l = with_tasks l.tasks (tasks_within (l.most - l.counter) (spelled l.rest)) ≡ tasks_within l.most (spelled l.words)
