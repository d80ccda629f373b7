use Rattle.std.{proofs.Common.{◌≡◌, map, take}, specs.List.flat_map}
use Rattle.stack_text.specs.Breaches.{Notes}
use Rattle.piton_check.{specs.Resolved.resolved_program, specs.Violations.program_breaches}
use Rattle.piton_check.proofs.program.programs.Given as goal

-- the programs so far
abbrev pub invariant-loop-text : goal.invariant-loop-text
invariant-loop-text g l = record {
  value : l.programs.items ≡ map (resolved_program l.names.system.now) (take l.text-index l.texts);
  noted : Notes l.fn.best (flat_map (program_breaches l.names.system.now) (take l.text-index l.texts)) l.best;
}
