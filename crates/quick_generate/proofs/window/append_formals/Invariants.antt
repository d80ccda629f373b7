use Rattle.std.proofs.Common.{◌≡◌, ◌++◌, map, drop}
use Rattle.gypsy_codegen.specs.WordsOf.{zero_value}
use Rattle.quick_gypsy.specs.Numbers.{numbers_of}
use Rattle.quick_generate.proofs.window.append_formals.Given as goal

abbrev pub invariant-loop-shape : goal.invariant-loop-shape
invariant-loop-shape g l =
    l.numbers.items ++ numbers_of (map zero_value (map (λ f. f.1) (drop l.shape-index l.formals))) ≡
    l.initial.numbers.items ++ numbers_of (map zero_value (map (λ f. f.1) l.formals))
