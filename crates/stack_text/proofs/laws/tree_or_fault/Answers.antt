use Rattle.stack_text.{proofs.FaultLaws.tree_iff_no_fault, proofs.TreeLaws.one_tree}
use Rattle.stack_text.proofs.laws.tree_or_fault.Goals as goal

pub returns-clause-some : goal.returns-clause-some
returns-clause-some c = tree_iff_no_fault

pub returns-clause-one : goal.returns-clause-one
returns-clause-one c = one_tree
