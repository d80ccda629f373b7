use Rattle.std.{proofs.Common.{◌≡◌, ◌++◌, drop}, specs.List.flat_map}
use Rattle.fm_image.specs.Spelling.{mark_bytes}
use Rattle.fm_image.proofs.writing.push_marks.Given as goal

-- the bytes so far and those of what is left are those of all
abbrev pub invariant-loop-mark : goal.invariant-loop-mark
invariant-loop-mark g l = l.bytes.items ++ flat_map mark_bytes (drop l.mark-index l.marks) ≡ l.initial.bytes.items ++ flat_map mark_bytes l.marks
