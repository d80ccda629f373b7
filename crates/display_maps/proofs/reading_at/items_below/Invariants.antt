use Rattle.std.proofs.Common.{◌≡◌, ◌+◌, ◌-◌}
use Rattle.stack_text.specs.Values.{item_count}
use Rattle.display_maps.{specs.Reading.item_of, specs.ReadingAt.items_below, proofs.StandingLaws.{joined, items_from}}
use Rattle.display_maps.proofs.reading_at.items_below.Given as goal

-- the items so far and those of what is left are all, if all are there
abbrev pub invariant-loop-place : goal.invariant-loop-place
invariant-loop-place g l =
    joined l.items.items (items_from (g.S.Standing.standing l.run) (item_of l.shape.kind) (l.index + l.place) (item_count l.shape - l.place))
    ≡ items_below (g.S.Standing.standing l.run) l.index l.shape
