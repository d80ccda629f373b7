use Rattle.std.proofs.Common.{arith}
use Rattle.gypsy_syntax.specs.Views.SourceView.{proc_of}
use Rattle.gypsy_space.proofs.AcceptedLaws.{condition_small}
use Rattle.gypsy_space.proofs.resolving.condition.Goals as goal

pub overflow_cast-result : goal.overflow_cast-result
overflow_cast-result c = omega (arith, c.condition_place.ensures, condition_small (proc_of c.args.proc.now) c.args.name.now.name c.requires)
