use Rattle.std.{proofs.Common.{◌≡◌, ◌≤◌, ◌-◌, ◌++◌, length, drop}, specs.List.slice_range}
use Rattle.stack_text.specs.Tokens.{tokens, atom_run, in_atom}
use Rattle.stack_text.proofs.lexer.atom_end.Given as goal

abbrev pub invariant-loop-at : goal.invariant-loop-at
invariant-loop-at l = record {
  later : l.from ≤ l.at;
  within : l.at ≤ length l.text;
  run_is : atom_run (drop l.from l.text) ≡ slice_range l.text l.from l.at ++ atom_run (drop l.at l.text);
  tokens_are : tokens in_atom l.from (drop l.from l.text) ≡ tokens in_atom l.at (drop l.at l.text);
}

abbrev pub decreases-loop-at : goal.decreases-loop-at
decreases-loop-at l = length l.text - l.at
