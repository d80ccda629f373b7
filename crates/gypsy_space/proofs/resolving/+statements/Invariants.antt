use Rattle.std.proofs.Common.{◌≡◌, drop}
use Rattle.gypsy_syntax.{specs.Resolved.statement_of_all, specs.Views.SourceView.{parts_of_list, proc_of, source_of}}
use Rattle.gypsy_space.specs.CallSites.{sequenced}
use Rattle.gypsy_space.proofs.resolving.+statements.Given as goal

-- the parts so far, and those that are still to come, are all parts
abbrev pub invariant-statements-loop-part : goal.invariant-statements-loop-part
invariant-statements-loop-part g l =
    sequenced l.nodes.items (statement_of_all (source_of l.callees.source.now) (proc_of l.proc) (parts_of_list (drop l.part-index l.parts))) ≡
    statement_of_all (source_of l.callees.source.now) (proc_of l.proc) (parts_of_list l.parts)
