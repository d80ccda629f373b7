use Rattle.std.proofs.Common.{◌≡◌, ◌++◌, map, drop}
use Rattle.command_line.specs.CommandFiles.{task_inputs}
use Rattle.command_line.proofs.command.task_inputs.Given as goal

-- the files of the tasks so far, and of those that are left, are all
abbrev pub invariant-loop-task : goal.invariant-loop-task
invariant-loop-task g l = map (λ input. (input.role, input.name.now)) l.inputs.items ++ task_inputs (drop l.task-index l.tasks) ≡ task_inputs l.tasks
