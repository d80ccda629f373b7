use Rattle.std.proofs.Common.{◌≡◌, ◌++◌, map, drop}
use Rattle.quick_gypsy.specs.Numbers.{numbers_of}
use Rattle.quick_generate.proofs.window.append_locals.Given as goal

abbrev pub invariant-loop-value : goal.invariant-loop-value
invariant-loop-value g l =
    l.numbers.items ++ numbers_of (map (λ v. v.1) (drop l.value-index l.locals)) ≡ l.initial.numbers.items ++ numbers_of (map (λ v. v.1) l.locals)
