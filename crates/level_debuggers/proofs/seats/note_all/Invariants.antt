use Rattle.std.proofs.Common.{◌≡◌, map}
use Rattle.level_debuggers.{specs.Tallies.noted, proofs.NotedLaws.changed}
use Rattle.level_debuggers.proofs.seats.note_all.Given as goal

abbrev pub invariant-loop-watch : goal.invariant-loop-watch
invariant-loop-watch g l =
    map (λ w. (goal.Watch-dyn g (w.vtable, w.value)).watching w.value) l.watches
    ≡ changed (noted l.event) l.watch-index
    (map (λ w. (goal.Watch-dyn g (w.vtable, w.value)).watching w.value) l.initial.watches)
