use Rattle.std.proofs.Common.{[], take}
use Rattle.stack_text.specs.Breaches.{Notes}
use Rattle.gypsy_check.{specs.Declarations.repeats, specs.Tables.KnowsNames}
use Rattle.gypsy_check.proofs.names.check_repeats.Given as goal

-- the names so far
abbrev pub invariant-loop-name : goal.invariant-loop-name
invariant-loop-name g l = record {
  known : KnowsNames l.earlier (take l.name-index l.names);
  noted : Notes l.fn.best (repeats l.rule [] (take l.name-index l.names)) l.best;
}
