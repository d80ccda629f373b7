use Rattle.std.proofs.Common.{◌≡◌, ◌≤◌, ◌+◌, ◌*◌, ◌^◌, drop}
use Rattle.stack_commands.specs.Commands.Turns.{word_count}
use Rattle.stack_commands.proofs.turns.tasks.word_count.Given as goal

-- the words so far and those that are left are those of all
abbrev pub invariant-loop-image : goal.invariant-loop-image
invariant-loop-image l = record {
  words_are : l.words + word_count (drop l.image-index l.images) ≡ word_count l.images;
  few : l.words ≤ l.image-index * 2 ^ 20;
}
