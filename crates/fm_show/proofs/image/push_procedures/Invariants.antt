use Rattle.std.{proofs.Common.{◌≡◌, ◌++◌, drop}, specs.List.flat_map}
use Rattle.fm_show.specs.ImageListing.{procedure_lines}
use Rattle.fm_show.proofs.image.push_procedures.Given as goal

-- the lines so far and those of what is left are those of all
abbrev pub invariant-loop-procedure : goal.invariant-loop-procedure
invariant-loop-procedure g l =
    l.text.items ++ flat_map procedure_lines (drop l.procedure-index l.procedures) ≡ l.initial.text.items ++ flat_map procedure_lines l.procedures
