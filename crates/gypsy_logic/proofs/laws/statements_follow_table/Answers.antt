use Rattle.gypsy_logic.proofs.TableLaws.{follows_table}
use Rattle.gypsy_logic.proofs.laws.statements_follow_table.Goals as goal

pub returns : goal.returns
returns c = follows_table
