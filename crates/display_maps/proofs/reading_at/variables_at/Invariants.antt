use Rattle.std.proofs.Common.{◌≡◌, drop, map}
use Rattle.display_maps.{specs.ReadingAt.variables_at, proofs.StandingLaws.joined}
use Rattle.display_maps.proofs.reading_at.variables_at.Given as goal

-- the variables so far and those of what is left are all, if all are there
abbrev pub invariant-loop-variable : goal.invariant-loop-variable
invariant-loop-variable g l =
    joined (map (λ item. (item.0, item.1, item.2.items)) l.read.items) (variables_at (g.S.Standing.standing l.run) (drop l.variable-index l.variables))
    ≡ variables_at (g.S.Standing.standing l.run) l.variables
