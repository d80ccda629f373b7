use Rattle.std.proofs.Common.{◌≡◌, ◌++◌, map, drop}
use Rattle.gypsy_syntax.{specs.Resolved.local_value, specs.Views.SourceView.local_of}
use Rattle.gypsy_space.proofs.resolving.locals.Given as goal

abbrev pub invariant-loop-local : goal.invariant-loop-local
invariant-loop-local g l = record {
  values : map (λ v. v.1) l.values.items ++ map local_value (map local_of (drop l.local-index l.locals)) ≡ map local_value (map local_of l.locals);
  names : map (λ v. v.0) l.values.items ++ map (λ v. v.decl.name.name) (map local_of (drop l.local-index l.locals))
      ≡ map (λ v. v.decl.name.name) (map local_of l.locals);
}
