use Rattle.std.proofs.Common.{◌++◌, [], map, take}
use Rattle.stack_text.specs.Breaches.{Notes}
use Rattle.gypsy_syntax.{specs.declared.literal.Decl.Decl, specs.declared.literal.Local.Local}
use Rattle.gypsy_check.{specs.Declarations.repeats, specs.Tables.KnowsTypes}
use Rattle.gypsy_check.proofs.names.variables_of.Given as goal

-- the formals so far
abbrev pub invariant-loop-formal : goal.invariant-loop-formal
invariant-loop-formal g l = record {
  known : KnowsTypes l.variables (take l.formal-index l.formals);
  noted : Notes l.fn.best (repeats 4 [] (map (λ (d : Decl). d.name) (take l.formal-index l.formals))) l.best;
}

-- the formals, and the locals so far
abbrev pub invariant-loop-local : goal.invariant-loop-local
invariant-loop-local g l = record {
  known : KnowsTypes l.variables (l.formals ++ map (λ (x : Local). x.decl) (take l.local-index l.locals));
  noted : Notes l.fn.best (repeats 4 [] (map (λ (d : Decl). d.name) (l.formals ++ map (λ (x : Local). x.decl) (take l.local-index l.locals)))) l.best;
}
