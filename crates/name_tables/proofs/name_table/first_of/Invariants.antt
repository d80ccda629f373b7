use Rattle.std.proofs.Common.{◌≡◌}
use Rattle.name_tables.specs.Entries.{entries_now, look_up}
use Rattle.name_tables.proofs.name_table.first_of.Given as goal

abbrev pub invariant-loop-entry : goal.invariant-loop-entry
invariant-loop-entry g l =
    (goal.iterator-loop-entry g).can_next l.entry-iterator × (goal.iterator-loop-entry g).is_finite l.entry-iterator
    × (look_up (entries_now l.entry-iterator) l.name ≡ look_up (entries_now l.values.map.entries) l.name)
