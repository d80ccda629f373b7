use Rattle.std.proofs.Common.{◌≡◌, ◌++◌, map, drop}
use Rattle.gypsy_syntax.specs.Views.SourceView.{proc_of}
use Rattle.gypsy_codegen.proofs.system.procedure_names.Given as goal

abbrev pub invariant-loop-proc : goal.invariant-loop-proc
invariant-loop-proc g l =
    l.names.items ++ map (λ p. p.name.name) (map proc_of (drop l.proc-index l.procs)) ≡ l.fn.names.items ++ map (λ p. p.name.name) (map proc_of l.procs)
