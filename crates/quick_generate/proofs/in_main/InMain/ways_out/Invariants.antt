use Rattle.std.proofs.Common.{◌≡◌, ◌++◌, map, replicate}
use Rattle.gypsy_syntax.specs.Programs.{Routine}
use Rattle.gypsy_space.specs.Nodes.{seen_cond}
use Rattle.quick_gypsy.specs.InLine.{condition_from}
use Rattle.quick_generate.proofs.in_main.InMain.ways_out.Given as goal

-- one more for each round so far
abbrev pub invariant-loop : goal.invariant-loop
invariant-loop g l =
    map seen_cond l.ways.items ≡ map (condition_from l.self.first_cond) (map seen_cond l.conds) ++ replicate l.counter Routine
