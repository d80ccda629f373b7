use Rattle.std.proofs.Common.{◌≡◌, ◌++◌, map, drop}
use Rattle.gypsy_syntax.specs.Views.SourceView.{local_of}
use Rattle.gypsy_codegen.proofs.procedure.local_names.Given as goal

abbrev pub invariant-loop-local : goal.invariant-loop-local
invariant-loop-local g l =
    l.names.items ++ map (λ v. v.decl.name.name) (map local_of (drop l.local-index l.locals)) ≡
    l.fn.names.items ++ map (λ v. v.decl.name.name) (map local_of l.locals)
