use Rattle.std.{proofs.Common.{◌≡◌, ◌++◌, drop}, specs.List.flat_map}
use Rattle.fm_image.specs.Spelling.{variable_bytes}
use Rattle.fm_image.proofs.writing.push_variables.Given as goal

-- the bytes so far and those of what is left are those of all
abbrev pub invariant-loop-variable : goal.invariant-loop-variable
invariant-loop-variable g l =
    l.bytes.items ++ flat_map variable_bytes (drop l.variable-index l.variables) ≡ l.initial.bytes.items ++ flat_map variable_bytes l.variables
