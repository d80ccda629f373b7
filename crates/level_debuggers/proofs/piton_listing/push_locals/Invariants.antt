use Rattle.std.proofs.Common.{◌≡◌, ◌++◌, drop}
use Rattle.level_debuggers.specs.PitonLevels.{local_lines, local_names}
use Rattle.level_debuggers.proofs.piton_listing.push_locals.Given as goal

abbrev pub invariant-loop-place : goal.invariant-loop-place
invariant-loop-place g l =
    l.out.items ++ local_lines l.system (drop l.place (local_names l.program)) (drop l.place l.words)
    ≡ l.initial.out.items ++ local_lines l.system (local_names l.program) l.words
