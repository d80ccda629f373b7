use Rattle.std.proofs.Common.{◌+◌, ◌*◌, drop}
use Rattle.gypsy_space.specs.Nodes.{seen_statements}
use Rattle.quick_generate.{specs.Lining.CanGo, specs.LinedViews.{called_program, size_in}, proofs.LinedSizeLaws.HasMore}
use Rattle.quick_generate.proofs.measuring.+sizes.Given as goal

-- each level is left for a lower one
abbrev pub decreases-measure : goal.decreases-measure
decreases-measure l = 3 * l.levels + 2

abbrev pub decreases-measure_call : goal.decreases-measure_call
decreases-measure_call l = 3 * l.levels + 1

abbrev pub decreases-measure_parts : goal.decreases-measure_parts
decreases-measure_parts l = 3 * l.levels + 1

abbrev pub decreases-measure_inside : goal.decreases-measure_inside
decreases-measure_inside l = 3 * l.levels

-- the size so far, and that of the parts that are still to come, are that of all
abbrev pub invariant-measure_parts-loop-index : goal.invariant-measure_parts-loop-index
invariant-measure_parts-loop-index l = record {
  can : CanGo (called_program l.calls) (seen_statements (drop l.index l.parts.value.items));
  size :
      HasMore l.size (size_in l.calls l.activation l.levels (seen_statements (drop l.index l.parts.value.items)))
      (l.fn.so_far + size_in l.calls l.activation l.levels (seen_statements l.parts.value.items));
}
