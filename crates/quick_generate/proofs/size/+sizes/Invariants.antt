use Rattle.std.proofs.Common.{drop}
use Rattle.gypsy_space.specs.Nodes.{seen_statements}
use Rattle.quick_generate.{specs.Sums.HasMoreToAdd, specs.Views.frame_layout}
use Rattle.quick_gypsy.specs.Quick.{size}
use Rattle.quick_generate.proofs.size.+sizes.Given as goal

-- the words so far, and those of the parts that are still to come, are those of all
abbrev pub invariant-parts_size-loop-index : goal.invariant-parts_size-loop-index
invariant-parts_size-loop-index l =
    HasMoreToAdd l.words (size (frame_layout l.frame) (seen_statements (drop l.index l.parts.value.items)))
    (size (frame_layout l.frame) (seen_statements l.parts.value.items))
