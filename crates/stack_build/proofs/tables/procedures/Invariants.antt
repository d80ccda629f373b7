use Rattle.std.proofs.Common.{◌≡◌, ◌++◌, map, drop}
use Rattle.gypsy_syntax.specs.Views.SourceView.{proc_of}
use Rattle.gypsy_space.specs.Nodes.{seen_program}
use Rattle.stack_build.specs.Image.{procedure_infos}
use Rattle.stack_build.proofs.tables.procedures.Given as goal

-- the procedures so far and those that are left are all
abbrev pub invariant-loop-number : goal.invariant-loop-number
invariant-loop-number g l =
    l.infos.items ++ procedure_infos (seen_program l.program) l.number (drop l.number (map proc_of l.procs))
    ≡ procedure_infos (seen_program l.program) 0 (map proc_of l.procs)
