use Rattle.std.proofs.Common.{◌≡◌, ◌≤◌, ◌*◌, ◌^◌, drop, length, map}
use Rattle.stack_text.proofs.ResultLoops.{with_front}
use Rattle.gypsy_space.specs.Needs.{stack_sizes}
use Rattle.stack_commands.specs.Commands.Turns.{images_from}
use Rattle.stack_commands.proofs.turns.tasks.build_tasks.Given as goal

-- the images so far, and those of the sources that are left, are those of all
abbrev pub invariant-loop-i : goal.invariant-loop-i
invariant-loop-i g l = record {
  images_are : with_front l.images.items (images_from (stack_sizes l.control l.temporary) l.i l.base (map (λ text. text.now) (drop l.i l.sources)))
      ≡ images_from (stack_sizes l.control l.temporary) 0 0 (map (λ text. text.now) l.sources);
  low : l.base ≤ l.i * 2 ^ 20;
  count : length l.images.items ≡ l.i;
}
