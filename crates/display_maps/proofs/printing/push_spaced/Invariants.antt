use Rattle.std.proofs.Common.{◌≡◌, ◌++◌, drop}
use Rattle.display_maps.specs.Report.{spaced}
use Rattle.display_maps.proofs.printing.push_spaced.Given as goal

-- the text so far and that of what is left are that of all
abbrev pub invariant-loop-item : goal.invariant-loop-item
invariant-loop-item g l = l.text.items ++ spaced (drop l.item-index l.items) ≡ l.initial.text.items ++ spaced l.items
