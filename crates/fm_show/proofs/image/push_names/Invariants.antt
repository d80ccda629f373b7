use Rattle.std.{proofs.Common.{◌≡◌, ◌++◌, drop}, specs.List.flat_map}
use Rattle.fm_show.specs.ImageListing.{name_line}
use Rattle.fm_show.proofs.image.push_names.Given as goal

-- the lines so far and those of what is left are those of all
abbrev pub invariant-loop-name : goal.invariant-loop-name
invariant-loop-name g l = l.text.items ++ flat_map name_line (drop l.name-index l.names) ≡ l.initial.text.items ++ flat_map name_line l.names
