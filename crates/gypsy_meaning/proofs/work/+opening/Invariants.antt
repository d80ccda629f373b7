use Rattle.std.proofs.Common.{◌≡◌, List, drop}
use Rattle.gypsy_semantics.specs.Machine as machine
use Rattle.gypsy_semantics.specs.Machine.{opens}
use Rattle.gypsy_space.specs.Nodes.{seen_statements}
use Rattle.gypsy_meaning.proofs.work.+opening.Given as goal

abbrev pub invariant-open_parts-loop-index : goal.invariant-open_parts-loop-index
invariant-open_parts-loop-index g l =
    (l.work.items ≡ l.fn.work.items) ×
    ((w ws : List machine.Item) → opens (seen_statements (drop l.fn.from l.fn.parts.value.items)) w ws ≡ opens
    (seen_statements (drop l.index l.parts.value.items)) w ws)
