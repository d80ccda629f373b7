use Rattle.std.{proofs.Common.{◌≡◌, map, take}, specs.List.flat_map}
use Rattle.stack_text.specs.Breaches.{Notes}
use Rattle.piton_check.{specs.Resolved.resolved_instruction, specs.Violations.instruction_breaches}
use Rattle.piton_check.proofs.argument.instructions.Given as goal

-- the instructions so far
abbrev pub invariant-loop-text : goal.invariant-loop-text
invariant-loop-text g l = record {
  value : l.instrs.items ≡ map (resolved_instruction l.scope.names.now.system.now l.scope.program.now) (take l.text-index l.texts);
  noted : Notes l.fn.best (flat_map (instruction_breaches l.scope.names.now.system.now l.scope.program.now) (take l.text-index l.texts)) l.best;
}
