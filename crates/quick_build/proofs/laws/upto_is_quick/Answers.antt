use Rattle.quick_build.proofs.ExampleLaws.{upto_is_quick}
use Rattle.quick_build.proofs.laws.upto_is_quick.Goals as goal

pub returns : goal.returns
returns c = upto_is_quick
