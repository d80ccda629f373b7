use Rattle.std.proofs.Common.{◌≡◌, map, take}
use Rattle.fm_loader.specs.Values.{number_of}
use Rattle.fm_loader.proofs.judging.array_numbers.Given as goal

-- the numbers so far
abbrev pub invariant-loop-scalar : goal.invariant-loop-scalar
invariant-loop-scalar g l = l.numbers.items ≡ map number_of (take l.scalar-index l.scalars)
