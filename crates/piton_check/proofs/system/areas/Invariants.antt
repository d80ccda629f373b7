use Rattle.std.{proofs.Common.{◌≡◌, map, take}, specs.List.flat_map}
use Rattle.stack_text.specs.Breaches.{Notes}
use Rattle.piton_check.{specs.Resolved.resolved_area, specs.Violations.area_breaches}
use Rattle.piton_check.proofs.system.areas.Given as goal

-- the areas so far
abbrev pub invariant-loop-text : goal.invariant-loop-text
invariant-loop-text g l = record {
  value : map (λ words. words.items) l.areas.items ≡ map (resolved_area l.names.system.now) (take l.text-index l.texts);
  noted : Notes l.fn.best (flat_map (area_breaches l.names.system.now) (take l.text-index l.texts)) l.best;
}
