use Rattle.std.{proofs.Common.{◌≡◌, ◌≤◌, ◌-◌, ◌++◌, length, drop}, specs.List.slice_range}
use Rattle.mini_syntax.{specs.Tokens.{tokens, longest_run}, specs.Internal.TokenSpans.{run_mode, run_test}}
use Rattle.mini_syntax.proofs.lexer.run_end.Given as goal

abbrev pub invariant-loop-at : goal.invariant-loop-at
invariant-loop-at l = record {
  later : l.from ≤ l.at;
  within : l.at ≤ length l.text;
  run_is : longest_run (run_test l.run) (drop l.from l.text) ≡ slice_range l.text l.from l.at ++ longest_run (run_test l.run) (drop l.at l.text);
  tokens_are : tokens (run_mode l.run) l.from (drop l.from l.text) ≡ tokens (run_mode l.run) l.at (drop l.at l.text);
}

abbrev pub decreases-loop-at : goal.decreases-loop-at
decreases-loop-at l = length l.text - l.at
