use Rattle.std.proofs.Common.{◌≡◌, ◌+◌, drop, map}
use Rattle.gypsy_space.specs.Nodes.{seen_cond, seen_statement}
use Rattle.quick_gypsy.specs.InLine.{passing}
use Rattle.quick_generate.proofs.lining.passing.Given as goal

abbrev pub invariant-loop-index : goal.invariant-loop-index
invariant-loop-index g l =
    passing l.place (l.number + l.index) (map seen_cond (drop l.index l.conds)) (seen_statement l.inner)
    ≡ passing l.place l.number (map seen_cond l.conds) (seen_statement l.fn.body)
