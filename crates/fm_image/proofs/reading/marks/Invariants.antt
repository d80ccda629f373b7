use Rattle.std.proofs.Common.{◌≡◌, ◌-◌, []}
use Rattle.fm_image.{specs.Fields.items_at, specs.Limits.last_mark, specs.Reading.mark_at}
use Rattle.fm_image.proofs.reading.marks.Given as goal

-- what was read and what is still read are what all reads
abbrev pub invariant-loop : goal.invariant-loop
invariant-loop g l = items_at (λ earlier. mark_at l.end l.window l.procedures (last_mark earlier)) (l.count - l.counter) l.marks.items l.rest
    ≡ items_at (λ earlier. mark_at l.end l.window l.procedures (last_mark earlier)) l.count [] l.initial.rest
