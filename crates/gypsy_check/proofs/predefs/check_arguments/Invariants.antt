use Rattle.std.{proofs.Common.take, specs.List.flat_map}
use Rattle.stack_text.specs.Breaches.{Notes}
use Rattle.gypsy_syntax.{specs.declared.statement.Arg.Arg, specs.Views.SourceView.{arg_of, proc_of}}
use Rattle.gypsy_check.specs.Rules.{argument_breaches}
use Rattle.gypsy_check.proofs.predefs.check_arguments.Given as goal

-- those so far
abbrev pub invariant-loop-arg : goal.invariant-loop-arg
invariant-loop-arg l = Notes l.fn.best (flat_map (λ (a : Arg). argument_breaches (proc_of l.scope) (arg_of a)) (take l.arg-index l.args)) l.best
