use Rattle.std.proofs.Common.{◌≡◌, ◌++◌, ◌+◌, drop}
use Rattle.gypsy_space.specs.Nodes.{seen_statements}
use Rattle.gypsy_codegen.{specs.Generated.size, specs.Internal.Listing.marked_program, specs.Marks.statement_marks, specs.Internal.Views.NamesAreThere}
use Rattle.gypsy_codegen.proofs.marking.+marked.Given as goal

-- what is listed, and the parts that are still to come, are all
abbrev pub invariant-parts-loop-index : goal.invariant-parts-loop-index
invariant-parts-loop-index g l = record {
  names : NamesAreThere (marked_program l.marking) l.marking.procedure (seen_statements (drop l.index l.parts.value.items));
  next :
      l.next + size (marked_program l.marking) (seen_statements (drop l.index l.parts.value.items)) ≡
      l.at + size (marked_program l.marking) (seen_statements l.parts.value.items);
  marks :
      l.marks.items ++ statement_marks (marked_program l.marking) l.marking.procedure l.next (seen_statements (drop l.index l.parts.value.items)) ≡
      l.fn.marks.items ++ statement_marks (marked_program l.marking) l.marking.procedure l.at (seen_statements l.parts.value.items);
}
