use Rattle.std.proofs.Common.{◌≡◌, ◌++◌, drop}
use Rattle.stack_build.specs.Image.{slots_from}
use Rattle.stack_build.proofs.imaging.slots_from.Given as goal

-- the slots so far, and those of the formals that are still to come
abbrev pub invariant-loop-formal : goal.invariant-loop-formal
invariant-loop-formal g l = l.slots.items ++ slots_from l.next (drop l.formal-index l.formals) ≡ slots_from l.fn.address l.formals
