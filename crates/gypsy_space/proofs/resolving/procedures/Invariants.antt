use Rattle.std.proofs.Common.{◌≡◌, ◌++◌, map, drop}
use Rattle.gypsy_syntax.{specs.Resolved.procedure_of, specs.Views.SourceView.{proc_of, source_of}}
use Rattle.gypsy_space.specs.Nodes.{declared_names, seen_proc, seen_proc_names}
use Rattle.gypsy_space.proofs.resolving.procedures.Given as goal

abbrev pub invariant-loop-proc : goal.invariant-loop-proc
invariant-loop-proc g l = record {
  procedures :
      map seen_proc l.procedures.items ++ map (procedure_of (source_of l.callees.source.now)) (map proc_of (drop l.proc-index l.proc-items)) ≡
      map (procedure_of (source_of l.callees.source.now)) (map proc_of l.callees.source.now.procs.items);
  names :
      map seen_proc_names l.procedures.items ++ map declared_names (map proc_of (drop l.proc-index l.proc-items)) ≡
      map declared_names (map proc_of l.callees.source.now.procs.items);
}
