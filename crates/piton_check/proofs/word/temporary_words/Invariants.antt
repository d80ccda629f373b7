use Rattle.std.{proofs.Common.{◌≡◌, map, take}, specs.List.flat_map}
use Rattle.stack_text.specs.Breaches.{Notes}
use Rattle.piton_check.{specs.Resolved.resolved_temporary, specs.Violations.temporary_breaches}
use Rattle.piton_check.proofs.word.temporary_words.Given as goal

-- the words so far
abbrev pub invariant-loop-temporary : goal.invariant-loop-temporary
invariant-loop-temporary g l = record {
  value : l.words.items ≡ map (resolved_temporary l.names.system.now) (take l.temporary-index l.temporaries);
  noted : Notes l.fn.best (flat_map (temporary_breaches l.names.system.now) (take l.temporary-index l.temporaries)) l.best;
}
