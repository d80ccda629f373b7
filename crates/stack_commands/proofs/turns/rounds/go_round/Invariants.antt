use Rattle.std.proofs.Common.{◌≡◌, replicate}
use Rattle.fm_turns.specs.Turns.{rounds_of, AreWithin, images_of}
use Rattle.stack_commands.proofs.turns.rounds.go_round.Given as goal

-- so many rounds were made, and another may follow
abbrev pub invariant-loop-made : goal.invariant-loop-made
invariant-loop-made l = record {
  made : l.turns ≡ rounds_of l.budget (replicate l._made l.turn) l.initial.turns;
  within : AreWithin l.budget l.turns.contexts;
  images : images_of l.turns ≡ images_of l.initial.turns;
}
