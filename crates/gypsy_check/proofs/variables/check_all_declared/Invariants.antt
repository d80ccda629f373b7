use Rattle.std.{proofs.Common.take, specs.List.flat_map}
use Rattle.stack_text.specs.Breaches.{Notes}
use Rattle.gypsy_syntax.specs.Views.SourceView.{proc_of}
use Rattle.gypsy_check.specs.Rules.{undeclared}
use Rattle.gypsy_check.proofs.variables.check_all_declared.Given as goal

-- those so far
abbrev pub invariant-loop-name : goal.invariant-loop-name
invariant-loop-name l = Notes l.fn.best (flat_map (undeclared (proc_of l.scope)) (take l.name-index l.names)) l.best
