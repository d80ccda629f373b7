use Rattle.std.{proofs.Common.{◌≡◌, map, take}, specs.List.flat_map}
use Rattle.stack_text.specs.Breaches.{Notes}
use Rattle.piton_check.{specs.Resolved.resolved_word, specs.Violations.word_breaches}
use Rattle.piton_check.proofs.word.words.Given as goal

-- the words so far
abbrev pub invariant-loop-text : goal.invariant-loop-text
invariant-loop-text g l = record {
  value : l.words.items ≡ map (resolved_word l.names.system.now) (take l.text-index l.texts);
  noted : Notes l.fn.best (flat_map (word_breaches l.names.system.now) (take l.text-index l.texts)) l.best;
}
