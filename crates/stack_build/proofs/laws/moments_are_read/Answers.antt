use Rattle.stack_build.proofs.ReadingLaws.{moments_are_read, shown_moments_are_read}
use Rattle.stack_build.proofs.laws.moments_are_read.Goals as goal

pub returns-clause-shown : goal.returns-clause-shown
returns-clause-shown c = shown_moments_are_read

pub returns-clause-memory : goal.returns-clause-memory
returns-clause-memory c = moments_are_read
