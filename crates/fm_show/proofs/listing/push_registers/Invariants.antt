use Rattle.std.proofs.Common.{◌≡◌, ◌++◌, drop}
use Rattle.fm_show.specs.Listing.{numbered_lines, register_line, register_lines}
use Rattle.fm_show.proofs.listing.push_registers.Given as goal

-- the lines so far and those of what is left are those of all
abbrev pub invariant-loop-r : goal.invariant-loop-r
invariant-loop-r g l = l.text.items ++ numbered_lines register_line l.r (drop l.r l.registers) ≡ l.initial.text.items ++ register_lines l.registers
