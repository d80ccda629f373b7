use Rattle.quick_build.proofs.SpendLaws.{programs_no_slower}
use Rattle.quick_build.proofs.laws.quick_programs_are_no_slower.Goals as goal

pub returns : goal.returns
returns c = programs_no_slower
