use Rattle.std.proofs.Common.{◌≡◌, ◌++◌, drop, map}
use Rattle.gypsy_syntax.specs.ProgramFits.{Each}
use Rattle.gypsy_space.specs.Nodes.{seen_cond}
use Rattle.quick_gypsy.specs.InLine.{condition_from}
use Rattle.quick_generate.specs.Lining.{HasLowNumber}
use Rattle.quick_generate.proofs.in_main.InMain.conditions.Given as goal

abbrev pub invariant-loop-cond : goal.invariant-loop-cond
invariant-loop-cond g l = record {
  low : Each HasLowNumber (map seen_cond (drop l.cond-index l.conds));
  made :
      map seen_cond l.made.items ++ map (condition_from l.self.first_cond) (map seen_cond (drop l.cond-index l.conds))
      ≡ map (condition_from l.self.first_cond) (map seen_cond l.conds);
}
