use Rattle.std.proofs.Common.{◌≡◌, ◌+◌, ◌*◌, ◌^◌, ◌≤◌, drop}
use Rattle.fm_turns.specs.Starting.{new_tasks, total_size}
use Rattle.fm_turns.proofs.starting.total_size.Given as goal

-- the words so far and those of what is left are those of all
abbrev pub invariant-loop-task : goal.invariant-loop-task
invariant-loop-task l = record {
  words : l.words + total_size (new_tasks (drop l.task-index l.tasks)) ≡ total_size (new_tasks l.tasks);
  some : l.task-index ≤ l.words;
  few : l.words ≤ l.task-index * 2 ^ 20;
}
