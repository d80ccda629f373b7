use Rattle.std.proofs.Common.{◌≡◌, ◌++◌, ◌+◌, ◌-◌}
use Rattle.quick_build.specs.QuickImage.{declared_numbers, exits_code}
use Rattle.quick_generate.proofs.exits.declared_exits.Given as goal

-- the exits so far, and those of the conditions that are still to come
abbrev pub invariant-loop-index : goal.invariant-loop-index
invariant-loop-index g l =
    l.words.items ++ exits_code l.cell l.behind (declared_numbers (4 + l.index) (l.conds - l.index))
    ≡ l.fn.words.items ++ exits_code l.cell l.behind (declared_numbers 4 l.conds)
