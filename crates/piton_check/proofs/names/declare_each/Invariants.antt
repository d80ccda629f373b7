use Rattle.std.proofs.Common.{[], map, take}
use Rattle.stack_text.specs.Breaches.{Notes}
use Rattle.piton_check.{specs.Declarations.{declaration, repeats}, specs.Tables.Knows}
use Rattle.piton_check.proofs.names.declare_each.Given as goal

-- the items so far
abbrev pub invariant-loop-index : goal.invariant-loop-index
invariant-loop-index g l = record {
  known : Knows l.table (map (declaration g.T.Declared.named) (take l.index l.items));
  noted : Notes l.fn.best (repeats l.rule [] (map (declaration g.T.Declared.named) (take l.index l.items))) l.best;
}
