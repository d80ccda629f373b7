use Rattle.std.proofs.Common.{◌≡◌, ◌++◌, map, drop}
use Rattle.gypsy_syntax.specs.Views.SourceView.{proc_of}
use Rattle.gypsy_space.specs.Nodes.{seen_program}
use Rattle.gypsy_codegen.{specs.Text.procedures_with, specs.Internal.Views.AreWritable}
use Rattle.gypsy_codegen.proofs.system.procedures.Given as goal

abbrev pub invariant-loop-number : goal.invariant-loop-number
invariant-loop-number g l = record {
  writable : AreWritable (seen_program l.program) l.programs l.number (map proc_of (drop l.number l.procs));
  made :
      l.made.items ++ procedures_with (seen_program l.program) l.programs l.number (map proc_of (drop l.number l.procs)) ≡
      procedures_with (seen_program l.program) l.programs 0 (map proc_of l.procs);
}
