use Rattle.std.proofs.Common.{[], map, take}
use Rattle.stack_text.specs.Breaches.{Notes}
use Rattle.piton_check.{specs.Declarations.{label_name, repeats}, specs.Tables.Knows}
use Rattle.piton_check.proofs.names.declare_labels.Given as goal

-- the labels so far
abbrev pub invariant-loop-index : goal.invariant-loop-index
invariant-loop-index g l = record {
  known : Knows l.table (map label_name (take l.index l.instrs));
  noted : Notes l.fn.best (repeats 6 [] (map label_name (take l.index l.instrs))) l.best;
}
