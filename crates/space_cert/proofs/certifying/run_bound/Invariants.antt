use Rattle.std.proofs.Common.{◌≡◌, drop}
use Rattle.gypsy_space.specs.Needs.{stack_sizes}
use Rattle.space_cert.specs.Order.{greatest_call_by}
use Rattle.space_cert.proofs.certifying.run_bound.Given as goal

abbrev pub invariant-loop-callee : goal.invariant-loop-callee
invariant-loop-callee l =
    greatest_call_by l.needs.procedures.items l.bounds (drop l.callee-index l.calls) (stack_sizes l.ctrl l.temp)
    ≡ greatest_call_by l.needs.procedures.items l.bounds l.calls (stack_sizes l.initial.ctrl l.initial.temp)
