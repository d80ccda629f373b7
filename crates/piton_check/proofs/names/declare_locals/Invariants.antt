use Rattle.std.proofs.Common.{[], ◌++◌, map, take}
use Rattle.stack_text.specs.Breaches.{Notes}
use Rattle.piton_check.{specs.Declarations.{formal_name, temporary_name, repeats}, specs.Tables.Knows}
use Rattle.piton_check.proofs.names.declare_locals.Given as goal

-- the temporaries so far, after the formals
abbrev pub invariant-loop-offset : goal.invariant-loop-offset
invariant-loop-offset g l = record {
  known : Knows l.table (map formal_name l.formals ++ map temporary_name (take l.offset l.temporaries));
  noted : Notes l.fn.best (repeats 5 [] (map formal_name l.formals ++ map temporary_name (take l.offset l.temporaries))) l.best;
}
