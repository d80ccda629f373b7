use Rattle.std.proofs.Common.{◌≡◌, ◌+◌, ◌-◌, ◌≤◌, ◌++◌}
use Rattle.quick_gypsy.specs.InLine.{numbers_from}
use Rattle.quick_generate.proofs.in_main.append_numbers.Given as goal

-- the numbers so far, and those that are still to come, are all
abbrev pub invariant-loop-index : goal.invariant-loop-index
invariant-loop-index g l =
    (l.index ≤ l.count) × (l.numbers.items ++ numbers_from (l.from + l.index) (l.count - l.index) ≡ l.fn.numbers.items ++ numbers_from l.from l.count)
