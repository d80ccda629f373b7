use Rattle.mini_syntax.proofs.ExampleLaws.{texts_are}
use Rattle.mini_syntax.proofs.laws.examples_compute.Goals as goal

pub returns : goal.returns
returns c = texts_are
