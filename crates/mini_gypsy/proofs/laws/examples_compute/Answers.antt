use Rattle.mini_gypsy.proofs.ExampleLaws.{programs_do}
use Rattle.mini_gypsy.proofs.laws.examples_compute.Goals as goal

pub returns : goal.returns
returns c = programs_do
