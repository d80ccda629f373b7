use Rattle.std.proofs.Common.{◌≡◌, ◌+◌, drop}
use Rattle.gypsy_syntax.specs.Programs.{Stmt}
use Rattle.gypsy_space.{specs.CallSites.sequenced, specs.Nodes.held_values}
use Rattle.quick_gypsy.specs.InLine.{after_locals}
use Rattle.quick_generate.proofs.lining.after_locals.Given as goal

-- the assignments so far, and those of the locals that are still to come, are all
abbrev pub invariant-loop-index : goal.invariant-loop-index
invariant-loop-index g l =
    (s : Stmt) → sequenced l.parts.items (after_locals l.place (l.next + l.index) (held_values (drop l.index l.locals)) s)
    ≡ after_locals l.place l.next (held_values l.locals) s
