use Rattle.std.{proofs.Common.{◌≡◌, map, drop}, specs.List.position_from}
use Rattle.level_debuggers.specs.Taken.{is_same}
use Rattle.level_debuggers.proofs.seats.place_of.Given as goal

abbrev pub invariant-loop-place : goal.invariant-loop-place
invariant-loop-place g l =
    position_from (λ w. is_same w.rule l.rule) l.place
    (map (λ w. (goal.Watch-dyn g (w.vtable, w.value)).watching w.value) (drop l.place l.watches))
    ≡ position_from (λ w. is_same w.rule l.rule) 0
    (map (λ w. (goal.Watch-dyn g (w.vtable, w.value)).watching w.value) l.watches)
