use Rattle.std.{proofs.Common.{◌≡◌, ◌++◌, drop}, specs.List.flat_map}
use Rattle.fm_show.specs.ImageListing.{variable_line}
use Rattle.fm_show.proofs.image.push_variables.Given as goal

-- the lines so far and those of what is left are those of all
abbrev pub invariant-loop-variable : goal.invariant-loop-variable
invariant-loop-variable g l =
    l.text.items ++ flat_map variable_line (drop l.variable-index l.variables) ≡ l.initial.text.items ++ flat_map variable_line l.variables
