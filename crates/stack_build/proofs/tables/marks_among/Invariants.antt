use Rattle.std.proofs.Common.{◌≡◌, ◌++◌, map, drop}
use Rattle.stack_build.specs.Internal.Listing.{mark_among}
use Rattle.stack_build.proofs.tables.marks_among.Given as goal

-- the marks so far and those of what is left are all
abbrev pub invariant-loop-mark : goal.invariant-loop-mark
invariant-loop-mark g l = l.marks.items ++ map (mark_among (map (λ row. row.items) l.places)) (drop l.mark-index l.listed)
    ≡ map (mark_among (map (λ row. row.items) l.places)) l.listed
