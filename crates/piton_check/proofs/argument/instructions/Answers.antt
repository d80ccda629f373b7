use Rattle.piton_check.{specs.Resolved.resolved_instruction, specs.Violations.instruction_breaches, proofs.ListLaws.mapped_next}
use Rattle.stack_text.proofs.BreachLaws.{notes_next}
use Rattle.piton_check.proofs.argument.instructions.Goals as goal

pub loop-text-preserved : goal.loop-text-preserved
loop-text-preserved g c = record {
  value = mapped_next (resolved_instruction c.args.scope.now.names.now.system.now c.args.scope.now.program.now) c.args.texts.now c.loop-text.text-index
      c.text-item.result c.in_ok-instruction.field-0 c.loop-text.instrs.items c.push.new.items.items
      c.loop-text-test.true c.text-item.is c.loop-text.invariant.value c.in_ok-instruction.ensures.value c.in_ok-push.ensures.items;
  noted = notes_next (instruction_breaches c.args.scope.now.names.now.system.now c.args.scope.now.program.now) c.args.texts.now c.loop-text.text-index
      c.text-item.result c.args.best.now c.loop-text.best c.instruction.new.best
      c.loop-text-test.true c.text-item.is c.loop-text.invariant.noted c.in_ok-instruction.ensures.noted;
}
