use Rattle.std.proofs.Common.{◌≡◌, ◌++◌, ◌-◌, flat_map, length}
use Rattle.gypsy_space.specs.Nodes.{seen_program}
use Rattle.gypsy_codegen.{specs.Generated.count_from, specs.Marks.{marks_of, procedure_marks}}
use Rattle.gypsy_codegen.proofs.marking.marks_with.Given as goal

-- what is listed, and the marks of the procedures that are still to come, are all
abbrev pub invariant-loop-number : goal.invariant-loop-number
invariant-loop-number g l = record {
  marks :
      l.listed.items ++ flat_map (procedure_marks (seen_program l.program)) (count_from l.number (length (seen_program l.program).procs - l.number)) ≡
      marks_of (seen_program l.program);
}
