use Rattle.space_cert.proofs.LargerLaws.{larger_same, covered_same}
use Rattle.space_cert.proofs.laws.larger_stacks_change_nothing.Goals as goal

pub returns-clause-never : goal.returns-clause-never
returns-clause-never c = larger_same

pub returns-clause-covered : goal.returns-clause-covered
returns-clause-covered c = covered_same
