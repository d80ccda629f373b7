use Rattle.std.proofs.Common.{◌≡◌, ◌+◌, ◌<◌, ◌^◌, drop}
use Rattle.fm_turns.specs.Starting.{new_tasks, first_base, adjoin, adjoin_from, total_size}
use Rattle.fm_turns.proofs.starting.adjoin.Given as goal

-- all windows adjoin exactly where those do that are left
abbrev pub invariant-loop-task : goal.invariant-loop-task
invariant-loop-task l = record {
  adjoin_is : adjoin_from l.from (new_tasks (drop l.task-index l.tasks)) ≡ adjoin (new_tasks l.tasks);
  end : l.from + total_size (new_tasks (drop l.task-index l.tasks))
      ≡ first_base (new_tasks l.tasks) + total_size (new_tasks l.tasks);
  below : l.from < 2 ^ 32;
}
