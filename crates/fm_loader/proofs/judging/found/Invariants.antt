use Rattle.std.proofs.Common.{◌≡◌, [], map, take, drop}
use Rattle.fm_loader.specs.Values.{entry_fault, value_for}
use Rattle.fm_loader.proofs.judging.found.Given as goal

-- what each slot gets of the entries so far, which break no rule
abbrev pub invariant-loop-entry : goal.invariant-loop-entry
invariant-loop-entry g l = record {
  found_is : l.found.items ≡ map (value_for (take l.entry-index l.entries)) l.slots;
  fault_is : entry_fault l.slots [] l.entries ≡ entry_fault l.slots (take l.entry-index l.entries) (drop l.entry-index l.entries);
}
