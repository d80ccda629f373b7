use Rattle.std.proofs.Common.{◌∙◌}
use Rattle.stack_commands.proofs.TaskLoops.{round_more}
use Rattle.stack_commands.proofs.turns.rounds.go_round.Goals as goal

pub loop-made-preserved : goal.loop-made-preserved
loop-made-preserved c = record {
  made = round_more c.args.budget c.args.turn c.loop-made._made c.args.turns.now c.loop-made.turns c.round.new.self c.loop-made.invariant.made
      c.round.ensures.turns;
  within = c.round.ensures.within;
  images = c.round.ensures.images ∙ c.loop-made.invariant.images;
}
