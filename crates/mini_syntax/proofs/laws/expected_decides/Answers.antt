use Rattle.mini_syntax.{proofs.ExpectedLaws.{end_of, not_taken, over_end, program_taken}, proofs.GoesOnLaws.{goes_on, is_whole}}
use Rattle.mini_syntax.proofs.laws.expected_decides.Goals as goal

pub returns : goal.returns
returns c = record {
  goes_on = goes_on;
  ends = not_taken;
  whole = is_whole;
  program = λ p. (end_of p.forms, program_taken p, over_end p.forms);
}
