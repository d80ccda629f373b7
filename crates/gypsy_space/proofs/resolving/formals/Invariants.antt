use Rattle.std.proofs.Common.{◌≡◌, ◌++◌, map, drop}
use Rattle.gypsy_syntax.specs.Resolved.{shape_of}
use Rattle.gypsy_space.proofs.resolving.formals.Given as goal

abbrev pub invariant-loop-decl : goal.invariant-loop-decl
invariant-loop-decl g l = record {
  shapes : map (λ f. f.1) l.formals.items ++ map (λ d. shape_of d.shape) (drop l.decl-index l.decls) ≡ map (λ d. shape_of d.shape) l.decls;
  names : map (λ f. f.0) l.formals.items ++ map (λ d. d.name.name) (drop l.decl-index l.decls) ≡ map (λ d. d.name.name) l.decls;
}
