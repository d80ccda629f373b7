use Rattle.std.proofs.Common.{◌≡◌, ◌++◌, ◌-◌, map}
use Rattle.gypsy_syntax.specs.Views.SourceView.{local_of}
use Rattle.mini_gypsy.specs.Lowered.{locals_from}
use Rattle.mini_syntax.specs.Sorted.{depths}
use Rattle.mini_gypsy.proofs.temporaries.append_locals.Given as goal

-- the temporaries so far, and those that are still to come, are all
abbrev pub invariant-loop-depth : goal.invariant-loop-depth
invariant-loop-depth g l =
    map local_of l.locals.items ++ locals_from l.sort l.depth (depths - l.depth) ≡ map local_of l.fn.locals.items ++ locals_from l.sort 0 depths
