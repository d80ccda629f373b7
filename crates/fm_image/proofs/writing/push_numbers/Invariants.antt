use Rattle.std.{proofs.Common.{◌≡◌, ◌++◌, drop}, specs.List.flat_map}
use Rattle.fm_image.specs.Spelling.{number_bytes}
use Rattle.fm_image.proofs.writing.push_numbers.Given as goal

-- the bytes so far and those of what is left are those of all
abbrev pub invariant-loop-number : goal.invariant-loop-number
invariant-loop-number g l = l.bytes.items ++ flat_map number_bytes (drop l.number-index l.numbers) ≡ l.initial.bytes.items ++ flat_map number_bytes l.numbers
