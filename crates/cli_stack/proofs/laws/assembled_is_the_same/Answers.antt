use Rattle.cli_stack.proofs.AgainLaws.{assembled_again}
use Rattle.cli_stack.proofs.laws.assembled_is_the_same.Goals as goal

pub returns : goal.returns
returns c = assembled_again
