use Rattle.std.proofs.Common.{◌≡◌, ◌+◌, ◌*◌, ◌++◌, drop, length}
use Rattle.gypsy_space.{specs.CallSites.sequenced, specs.Nodes.{held_values, seen_statements}}
use Rattle.quick_generate.{specs.Lining.CanGo, specs.LinedViews.{HasNumbers, line_in, more_in, called_program, size_in}}
use Rattle.quick_generate.proofs.lining.+lines.Given as goal

-- each level is left for a lower one
abbrev pub decreases-line : goal.decreases-line
decreases-line g l = 3 * l.levels + 2

abbrev pub decreases-line_call : goal.decreases-line_call
decreases-line_call g l = 3 * l.levels + 1

abbrev pub decreases-line_parts : goal.decreases-line_parts
decreases-line_parts g l = 3 * l.levels + 1

abbrev pub decreases-line_inside : goal.decreases-line_inside
decreases-line_inside g l = 3 * l.levels

-- the parts so far, and those that are still to come, are all
abbrev pub invariant-line_parts-loop-index : goal.invariant-line_parts-loop-index
invariant-line_parts-loop-index g l = record {
  can : CanGo (called_program l.calls) (seen_statements (drop l.index l.parts.value.items));
  numbers :
      HasNumbers l.context l.made.next
      (size_in l.calls l.context.activation l.levels (seen_statements (drop l.index l.parts.value.items)));
  statement :
      sequenced l.lined.items (line_in l.calls l.context l.made.next (seen_statements (drop l.index l.parts.value.items)))
      ≡ line_in l.calls l.context l.fn.made.next (seen_statements l.parts.value.items);
  locals :
      held_values l.made.locals.items ++ more_in l.calls l.context.activation (seen_statements (drop l.index l.parts.value.items))
      ≡ held_values l.fn.made.locals.items ++ more_in l.calls l.context.activation (seen_statements l.parts.value.items);
  next :
      l.made.next + length (more_in l.calls l.context.activation (seen_statements (drop l.index l.parts.value.items)))
      ≡ l.fn.made.next + length (more_in l.calls l.context.activation (seen_statements l.parts.value.items));
}
