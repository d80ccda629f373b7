use Rattle.std.proofs.Common.{◌≡◌, ◌++◌, ◌+◌, map, drop}
use Rattle.gypsy_space.specs.Nodes.{seen_program, seen_statements}
use Rattle.gypsy_codegen.{specs.Lines.{labels, lines}, specs.Internal.Views.{env, names_of, NamesAreThere}, specs.Written.written}
use Rattle.gypsy_codegen.proofs.statement.+statements.Given as goal

-- what is written, and the parts that are still to come, are all
abbrev pub invariant-parts-loop-index : goal.invariant-parts-loop-index
invariant-parts-loop-index g l = record {
  names : NamesAreThere (seen_program l.context.program.now) l.context.procedure (seen_statements (drop l.index l.parts.value.items));
  next : l.next + labels (seen_statements (drop l.index l.parts.value.items)) ≡ l.first + labels (seen_statements l.parts.value.items);
  lines :
      l.emitter ++ map (written (names_of l.context))
      (lines (seen_program l.context.program.now) l.context.procedure (env l.scopes) l.next (seen_statements (drop l.index l.parts.value.items))) ≡
      l.fn.emitter ++ map (written (names_of l.context))
      (lines (seen_program l.context.program.now) l.context.procedure (env l.scopes) l.first (seen_statements l.parts.value.items));
}
