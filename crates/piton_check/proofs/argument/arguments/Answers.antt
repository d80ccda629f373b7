use Rattle.piton_check.{specs.Resolved.resolved_argument, specs.Violations.argument_breaches, proofs.ListLaws.mapped_next}
use Rattle.stack_text.proofs.BreachLaws.{notes_next}
use Rattle.piton_check.proofs.argument.arguments.Goals as goal

pub loop-text-preserved : goal.loop-text-preserved
loop-text-preserved g c = record {
  value = mapped_next (resolved_argument c.args.scope.now.names.now.system.now c.args.scope.now.program.now c.args.kind) c.args.texts.now
      c.loop-text.text-index c.text-item.result c.argument.result c.loop-text.args.items c.push.new.items.items
      c.loop-text-test.true c.text-item.is c.loop-text.invariant.value c.argument.ensures.value c.in_ok-push.ensures.items;
  noted = notes_next (argument_breaches c.args.scope.now.names.now.system.now c.args.scope.now.program.now c.args.kind) c.args.texts.now
      c.loop-text.text-index c.text-item.result c.args.best.now c.loop-text.best c.argument.new.best
      c.loop-text-test.true c.text-item.is c.loop-text.invariant.noted c.argument.ensures.noted;
}
