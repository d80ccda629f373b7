use Rattle.std.{proofs.Common.{◌≡◌, ◌≤◌, ◌++◌, map}, specs.Prelude.All}
use Rattle.fm_turns.specs.Starting.{new_tasks, machine_of, context_of, AllFit, with_tasks}
use Rattle.fm_turns.proofs.starting.load_tasks.Given as goal

-- what is done and what is left make of memory what all make of it, and so with what is each task's own
abbrev pub invariant-loop-task : goal.invariant-loop-task
invariant-loop-task g l = record {
  contexts : l.contexts.items ++ map (λ task. context_of task.image (machine_of task)) (new_tasks l.task-iterator.rest.items)
      ≡ map (λ task. context_of task.image (machine_of task)) (new_tasks l.fn.tasks.items);
  memory : with_tasks l.initial.machine.state.base (new_tasks l.task-iterator.rest.items) l.machine.state.memory
      ≡ with_tasks l.initial.machine.state.base (new_tasks l.fn.tasks.items) l.initial.machine.state.memory;
  same : l.machine.state ≡ record l.initial.machine.state { memory = l.machine.state.memory };
  fit : AllFit (new_tasks l.task-iterator.rest.items);
  above : All (λ task. l.initial.machine.state.base ≤ task.image.base) (new_tasks l.task-iterator.rest.items);
}
