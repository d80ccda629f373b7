use Rattle.std.{proofs.Common.take, specs.List.flat_map}
use Rattle.stack_text.specs.Breaches.{Notes}
use Rattle.gypsy_check.proofs.NoteLaws.{literal_breaks}
use Rattle.gypsy_check.proofs.literals.+literals.Given as goal

-- those so far
abbrev pub invariant-check_items-loop-item : goal.invariant-check_items-loop-item
invariant-check_items-loop-item l = Notes l.fn.best (flat_map (literal_breaks) (take l.item-index l.items)) l.best
