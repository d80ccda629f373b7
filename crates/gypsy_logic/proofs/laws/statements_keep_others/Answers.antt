use Rattle.gypsy_logic.proofs.WrittenLaws.{run_keeps}
use Rattle.gypsy_logic.proofs.laws.statements_keep_others.Goals as goal

pub returns : goal.returns
returns c = run_keeps
