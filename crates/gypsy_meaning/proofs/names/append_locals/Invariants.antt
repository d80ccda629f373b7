use Rattle.std.proofs.Common.{◌≡◌, ◌++◌, map, drop}
use Rattle.gypsy_syntax.specs.Views.SourceView.{local_of}
use Rattle.gypsy_meaning.proofs.names.append_locals.Given as goal

abbrev pub invariant-loop-local : goal.invariant-loop-local
invariant-loop-local g l =
    l.names.items ++ map (λ d. d.decl.name.name) (map local_of (drop l.local-index l.locals)) ≡
    l.initial.names.items ++ map (λ d. d.decl.name.name) (map local_of l.locals)
