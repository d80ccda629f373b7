use Rattle.std.{proofs.Common.{refl, length}, proofs.lemmas.Option.slice_get_read}
use Rattle.piton_check.{specs.Resolved.resolved_program, specs.Violations.program_breaches, proofs.ListLaws.mapped_next}
use Rattle.stack_text.proofs.BreachLaws.{notes_next}
use Rattle.piton_check.proofs.program.programs.Goals as goal

pub program-requires-clause-small : goal.program-requires-clause-small
program-requires-clause-small g c = c.requires.small c.loop-text.text-index c.text-item.result
    (slice_get_read c.args.texts.now (length c.args.texts.now) c.loop-text.text-index c.text-item.result refl c.loop-text-test.true c.text-item.is)

pub loop-text-preserved : goal.loop-text-preserved
loop-text-preserved g c = record {
  value = mapped_next (resolved_program c.args.names.now.system.now) c.args.texts.now c.loop-text.text-index c.text-item.result c.in_ok-program.field-0
      c.loop-text.programs.items c.push.new.items.items
      c.loop-text-test.true c.text-item.is c.loop-text.invariant.value c.in_ok-program.ensures.value c.in_ok-push.ensures.items;
  noted = notes_next (program_breaches c.args.names.now.system.now) c.args.texts.now c.loop-text.text-index c.text-item.result c.args.best.now
      c.loop-text.best c.program.new.best
      c.loop-text-test.true c.text-item.is c.loop-text.invariant.noted c.in_ok-program.ensures.noted;
}
