use Rattle.std.proofs.Common.{◌≡◌, ◌+◌, length, map}
use Rattle.stack_text.proofs.ResultLoops.{with_front}
use Rattle.fm_turns.specs.Starting.{new_tasks, AllFit}
use Rattle.stack_commands.specs.Commands.Turns.{tasks_from}
use Rattle.stack_commands.proofs.turns.tasks.read_tasks.Given as goal

-- the tasks so far, and those of the images that are left, are those of all
abbrev pub invariant-loop-image : goal.invariant-loop-image
invariant-loop-image g l = record {
  tasks_are : with_front (new_tasks l.tasks.items) (tasks_from (map (λ text. text.now) l.texts) l.i l.image-iterator.rest.items)
      ≡ tasks_from (map (λ text. text.now) l.texts) 0 l.fn.images.items;
  fit : AllFit (new_tasks l.tasks.items);
  count : l.i + length l.image-iterator.rest.items ≡ length l.fn.images.items;
}
