use Rattle.std.proofs.Common.{◌≡◌, ◌-◌, []}
use Rattle.fm_image.specs.Fields.{items_at, number_at}
use Rattle.fm_image.proofs.reading.numbers.Given as goal

-- what was read and what is still read are what all reads
abbrev pub invariant-loop : goal.invariant-loop
invariant-loop g l =
    items_at (λ earlier. number_at l.end) (l.count - l.counter) l.numbers.items l.rest ≡ items_at (λ earlier. number_at l.end) l.count [] l.left
