use Rattle.gypsy_codegen.{proofs.ExampleLaws.examples_end, proofs.TextExampleLaws.texts_are, proofs.MarkExampleLaws.marks_are}
use Rattle.gypsy_codegen.proofs.laws.examples_compute.Goals as goal

pub returns-clause-runs : goal.returns-clause-runs
returns-clause-runs c = examples_end

pub returns-clause-texts : goal.returns-clause-texts
returns-clause-texts c = texts_are

pub returns-clause-marks : goal.returns-clause-marks
returns-clause-marks c = marks_are
