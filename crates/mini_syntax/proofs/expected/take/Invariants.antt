use Rattle.std.{proofs.Common.{◌≡◌, length}, specs.Prelude.reverse}
use Rattle.mini_syntax.specs.Expected.{takes}
use Rattle.mini_syntax.proofs.expected.take.Given as goal

abbrev pub invariant-loop-top : goal.invariant-loop-top
invariant-loop-top g l = takes (reverse l.fn.stack.items) l.kind ≡ takes (reverse l.stack.items) l.kind

abbrev pub decreases-loop-top : goal.decreases-loop-top
decreases-loop-top g l = length l.stack.items
