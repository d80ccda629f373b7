use Rattle.std.proofs.Common.{◌≡◌, ◌++◌, ◌+◌, drop}
use Rattle.gypsy_space.specs.Nodes.{seen_statements}
use Rattle.quick_gypsy.specs.Quick.{quick, size}
use Rattle.quick_generate.specs.Views.{frame_layout, targets}
use Rattle.quick_generate.proofs.statement.+statements.Given as goal

-- the code so far, and that of the parts that are still to come, is that of all
abbrev pub invariant-parts-loop-index : goal.invariant-parts-loop-index
invariant-parts-loop-index g l = record {
  next :
      l.next + size (frame_layout l.frame) (seen_statements (drop l.index l.parts.value.items))
      ≡ l.pc + size (frame_layout l.frame) (seen_statements l.parts.value.items);
  code :
      l.words.items ++ quick (frame_layout l.frame) (targets l.scopes) l.next (seen_statements (drop l.index l.parts.value.items))
      ≡ l.fn.words.items ++ quick (frame_layout l.frame) (targets l.scopes) l.pc (seen_statements l.parts.value.items);
}
