use Rattle.std.proofs.Common.{◌≡◌, ◌++◌, ◌+◌, ◌-◌, ◌∷◌, map}
use Rattle.gypsy_syntax.specs.Views.SourceView.{proc_of}
use Rattle.gypsy_gen.specs.Large.{main_procedure, procedures_from}
use Rattle.gypsy_gen.proofs.making.procedures.Given as goal

abbrev pub invariant-loop-index : goal.invariant-loop-index
invariant-loop-index g l =
    map proc_of l.procs.items ++ procedures_from l.index l.state (l.fn.size + 1 - l.index)
    ≡ main_procedure l.fn.size ∷ procedures_from 1 l.fn.number l.fn.size
