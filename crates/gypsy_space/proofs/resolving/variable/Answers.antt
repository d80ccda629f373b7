use Rattle.std.proofs.Common.{arith}
use Rattle.gypsy_syntax.specs.Views.SourceView.{proc_of}
use Rattle.gypsy_space.proofs.AcceptedLaws.{variable_small}
use Rattle.gypsy_space.proofs.resolving.variable.Goals as goal

pub overflow_cast-result : goal.overflow_cast-result
overflow_cast-result c = omega (arith, c.variable_place.ensures, variable_small (proc_of c.args.proc.now) c.args.name.now.name c.requires)
