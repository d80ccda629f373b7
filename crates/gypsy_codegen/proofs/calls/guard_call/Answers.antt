use Rattle.gypsy_space.{specs.Needs.call_need, specs.Nodes.seen_program}
use Rattle.gypsy_codegen.{specs.Internal.Views.names_of, proofs.CodeLaws.guard_is}
use Rattle.gypsy_codegen.proofs.calls.guard_call.Goals as goal

pub returns : goal.returns
returns g c =
    let context = c.args.context.now in
    guard_is (names_of context) (call_need (seen_program context.program.now) c.args.callee) c.args.to
    c.temporary_call_need-temporary.result c.control_call_need-control.result
    c.args.emitter.now c.guard.new.emitter c.guard-2.new.emitter
    c.temporary_call_need-temporary.ensures c.control_call_need-control.ensures c.in_ok-guard.ensures c.in_ok-guard-2.ensures
