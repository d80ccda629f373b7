use Rattle.std.{proofs.Common.{◌≡◌, ◌++◌, drop}, specs.List.flat_map}
use Rattle.fm_show.specs.ImageListing.{mark_line}
use Rattle.fm_show.proofs.image.push_marks.Given as goal

-- the lines so far and those of what is left are those of all
abbrev pub invariant-loop-mark : goal.invariant-loop-mark
invariant-loop-mark g l =
    l.text.items ++ flat_map (mark_line l.procedures) (drop l.mark-index l.marks) ≡ l.initial.text.items ++ flat_map (mark_line l.procedures) l.marks
