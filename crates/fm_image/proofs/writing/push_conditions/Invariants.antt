use Rattle.std.{proofs.Common.{◌≡◌, ◌++◌, drop}, specs.List.flat_map}
use Rattle.fm_image.specs.Spelling.{name_bytes}
use Rattle.fm_image.proofs.writing.push_conditions.Given as goal

-- the bytes so far and those of what is left are those of all
abbrev pub invariant-loop-name : goal.invariant-loop-name
invariant-loop-name g l = l.bytes.items ++ flat_map name_bytes (drop l.name-index l.conditions) ≡ l.initial.bytes.items ++ flat_map name_bytes l.conditions
