use Rattle.std.proofs.Common.{true, false}
use Rattle.name_tables.{specs.Entries.entries_now, proofs.EntryLaws.{known_is, none_more, one_more}}
use Rattle.name_tables.proofs.kept.KeptValues.enter.Goals as goal

pub returns-then-contains_key-clause-known : goal.returns-then-contains_key-clause-known
returns-then-contains_key-clause-known g c =
    known_is c.args.self.now.map.entries c.args.name.now c.contains_key.result true c.contains_key.ensures c.if-contains_key.true

pub returns-then-contains_key-clause-entered : goal.returns-then-contains_key-clause-entered
returns-then-contains_key-clause-entered g c =
    none_more (entries_now c.args.self.now.map.entries) c.args.name.now c.args.value
    (known_is c.args.self.now.map.entries c.args.name.now c.contains_key.result true c.contains_key.ensures c.if-contains_key.true)

pub returns-clause-known : goal.returns-clause-known
returns-clause-known g c =
    known_is c.args.self.now.map.entries c.args.name.now c.contains_key.result false c.contains_key.ensures c.if-contains_key.false

pub returns-clause-entered : goal.returns-clause-entered
returns-clause-entered g c =
    one_more c.args.self.now.map.entries c.room_in.new.table.map.entries c.insert.new.self.entries (record { bytes = c.args.name }) c.args.value
    c.insert.result c.unwrap.result c.in_ok-room_in.ensures.stays c.unwrap.ensures c.insert.ensures.entries
    (known_is c.args.self.now.map.entries c.args.name.now c.contains_key.result false c.contains_key.ensures c.if-contains_key.false)
