use Rattle.quick_build.proofs.ExampleLaws.{product_is_quick}
use Rattle.quick_build.proofs.laws.product_is_quick.Goals as goal

pub returns : goal.returns
returns c = product_is_quick
