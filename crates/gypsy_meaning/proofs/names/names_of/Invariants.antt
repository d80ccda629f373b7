use Rattle.std.proofs.Common.{◌≡◌, ◌++◌, map, drop}
use Rattle.gypsy_syntax.specs.Views.SourceView.{proc_of}
use Rattle.gypsy_meaning.specs.Views.Named.{proc_names, seen_names}
use Rattle.gypsy_meaning.proofs.names.names_of.Given as goal

abbrev pub invariant-loop-proc : goal.invariant-loop-proc
invariant-loop-proc g l =
    map seen_names l.names.items ++ map proc_names (map proc_of (drop l.proc-index l.source.procs.items)) ≡
    map proc_names (map proc_of l.source.procs.items)
