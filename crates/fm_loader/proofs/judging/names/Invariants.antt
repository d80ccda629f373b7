use Rattle.std.proofs.Common.{◌≡◌, map, take}
use Rattle.fm_loader.proofs.judging.names.Given as goal

-- the names so far
abbrev pub invariant-loop-slot : goal.invariant-loop-slot
invariant-loop-slot g l = l.names ≡ map (λ slot. slot.name) (take l.slot-index l.slots)
