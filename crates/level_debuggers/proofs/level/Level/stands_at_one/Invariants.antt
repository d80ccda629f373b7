use Rattle.std.{proofs.Common.{◌≡◌, drop}, specs.List.list_any}
use Rattle.level_debuggers.{specs.Levels.{stands_at, stands_at_one}, specs.Views.Belonging.level_seen}
use Rattle.level_debuggers.proofs.level.Level.stands_at_one.Given as goal

-- it stands at none of the places so far
abbrev pub invariant-loop-place : goal.invariant-loop-place
invariant-loop-place l =
    list_any (λ there. stands_at there (level_seen l.self)) (drop l.place-index l.places) ≡ stands_at_one l.places (level_seen l.self)
