use Rattle.std.proofs.Common.{◌+◌, ◌-◌, ◌≤◌, length}
use Rattle.mini_syntax.{specs.Internal.Judging.IsBelow, proofs.JudgeLaws.Stands}
use Rattle.mini_syntax.proofs.judging.judge_text.Given as goal

abbrev pub invariant-loop-found : goal.invariant-loop-found
invariant-loop-found g l = record {
  within : l.at ≤ length l.text;
  below : IsBelow l.counts (l.at + 1);
  stands : Stands l.text l.at l.lexemes.items l.stack.items l.counts;
}

abbrev pub decreases-loop-found : goal.decreases-loop-found
decreases-loop-found g l = length l.text - l.at
