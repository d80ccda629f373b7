use Rattle.std.proofs.Common.{◌≡◌, ◌++◌, ◌+◌, ◌-◌, map}
use Rattle.gypsy_syntax.specs.Views.SourceView.{stmt_of}
use Rattle.gypsy_gen.specs.Large.{calls_from}
use Rattle.gypsy_gen.proofs.making.calls.Given as goal

abbrev pub invariant-loop-index : goal.invariant-loop-index
invariant-loop-index g l = map stmt_of l.parts.items ++ calls_from l.index (l.fn.size + 1 - l.index) ≡ calls_from 1 l.fn.size
