use Rattle.std.proofs.Common.{◌≡◌, ◌++◌, map, drop}
use Rattle.gypsy_codegen.proofs.procedure.formal_names.Given as goal

abbrev pub invariant-loop-formal : goal.invariant-loop-formal
invariant-loop-formal g l =
    l.names.items ++ map (λ d. d.name.name) (drop l.formal-index l.formals) ≡ l.fn.names.items ++ map (λ d. d.name.name) l.formals
