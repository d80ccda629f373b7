use Rattle.quick_build.proofs.ExampleLaws.{swap_is_quick}
use Rattle.quick_build.proofs.laws.swap_is_quick.Goals as goal

pub returns : goal.returns
returns c = swap_is_quick
