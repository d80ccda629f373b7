use Rattle.std.{proofs.Common.{◌≡◌, ◌+◌, map, take}, specs.Prelude.sum_by}
use Rattle.piton_linker.specs.Tables.{starts}
use Rattle.piton_linker.proofs.table.starts.Given as goal

-- the addresses so far, and the next one
abbrev pub invariant-loop-part : goal.invariant-loop-part
invariant-loop-part g l = record {
  at : l.at ≡ l.first + sum_by g.T.TakesWords.words (take l.part-index l.parts);
  made : l.made.items ≡ take l.part-index (starts l.first (map g.T.TakesWords.words l.parts));
}
