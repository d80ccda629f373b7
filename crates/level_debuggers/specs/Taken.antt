-- Watches that are attached and detached.
use Rattle.std.specs.{Prelude.{List, [], ◌∷◌, ◌++◌, Bool, true, false, Option, Some, None, if◌then◌else◌}, Option.{option_map}}
use Rattle.level_debuggers.specs.{declared.watch.Rule.{Rule}, declared.watch.Rule.TheVariants.{Count, Cost, Last, Peak}}
use Rattle.level_debuggers.specs.{declared.watch.Tally.{Tally}, Tallies.{Watching}, Walks.{SessionOf}}

abbrev pub is_same : Rule → Rule → Bool
is_same Count Count = true
is_same Cost Cost = true
is_same Last Last = true
is_same Peak Peak = true
is_same rule other = false

abbrev pub behind : Watching → Option (Watching × List Watching) → Option (Watching × List Watching)
behind watch None = None
behind watch (Some found) = Some (found.0, watch ∷ found.1)

-- the first watch of a rule, and the others
abbrev pub taken : Rule → List Watching → Option (Watching × List Watching)
taken rule [] = None
taken rule (watch ∷ watches) = if is_same watch.rule rule then Some (watch, watches) else behind watch (taken rule watches)

abbrev pub attached_with : SessionOf → Option (Watching × List Watching) → Option SessionOf
attached_with s None = None
attached_with s (Some found) = Some (record s { waiting = found.1; attached = s.attached ++ found.0 ∷ [] })

-- the first waiting watch of a rule becomes the last attached one
abbrev pub attached_by : Rule → SessionOf → Option SessionOf
attached_by rule s = attached_with s (taken rule s.waiting)

abbrev pub detached_with : SessionOf → Option (Watching × List Watching) → Option (Tally × SessionOf)
detached_with s None = None
detached_with s (Some found) = Some (found.0.tally, record s { attached = found.1 })

-- the tally of the first attached watch of a rule, and the session without that watch
abbrev pub detached_by : Rule → SessionOf → Option (Tally × SessionOf)
detached_by rule s = detached_with s (taken rule s.attached)

-- that tally alone
abbrev pub tally_by : Rule → SessionOf → Option Tally
tally_by rule s = option_map (λ found. found.0.tally) (taken rule s.attached)
