use Rattle.std.proofs.Common.{◌≡◌, ◌++◌, map, drop}
use Rattle.gypsy_meaning.proofs.names.append_formals.Given as goal

abbrev pub invariant-loop-decl : goal.invariant-loop-decl
invariant-loop-decl g l =
    l.names.items ++ map (λ d. d.name.name) (drop l.decl-index l.formals) ≡
    l.initial.names.items ++ map (λ d. d.name.name) l.formals
