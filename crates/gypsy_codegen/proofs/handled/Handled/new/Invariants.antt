use Rattle.std.{proofs.Common.{◌≡◌, map, drop, get_or, true, false}, specs.Prelude.if◌then◌else◌}
use Rattle.gypsy_syntax.specs.Programs.{ConditionOf}
use Rattle.gypsy_space.specs.Nodes.{seen_cond}
use Rattle.gypsy_semantics.specs.Calls.{has_cond}
use Rattle.gypsy_codegen.specs.WordsOf.{number_of}
use Rattle.gypsy_codegen.proofs.handled.Handled.new.Given as goal

-- what the table has, and the conditions that are still to come, are all
abbrev pub invariant-loop-cond : goal.invariant-loop-cond
invariant-loop-cond g l =
    (c : ConditionOf) →
    (if get_or l.table.items (number_of c) false then true else has_cond c (map seen_cond (drop l.cond-index l.conds))) ≡
    has_cond c (map seen_cond l.conds)
