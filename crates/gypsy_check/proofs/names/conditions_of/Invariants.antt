use Rattle.std.proofs.Common.{◌++◌, [], take}
use Rattle.stack_text.specs.Breaches.{Notes}
use Rattle.gypsy_check.{specs.Declarations.repeats, specs.Tables.KnowsNames}
use Rattle.gypsy_check.proofs.names.conditions_of.Given as goal

-- the formal conditions so far
abbrev pub invariant-loop-cond : goal.invariant-loop-cond
invariant-loop-cond g l = record {
  known : KnowsNames l.earlier (take l.cond-index l.conds);
  noted : Notes l.fn.best (repeats 5 [] (take l.cond-index l.conds)) l.best;
}

-- the formal conditions, and the local ones so far
abbrev pub invariant-loop-local : goal.invariant-loop-local
invariant-loop-local g l = record {
  known : KnowsNames l.earlier (l.conds ++ take l.local-index l.local_conds);
  noted : Notes l.fn.best (repeats 5 [] (l.conds ++ take l.local-index l.local_conds)) l.best;
}
