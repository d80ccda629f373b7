use Rattle.std.{proofs.Common.{ap, bytes_eq, ◌∙◌, arith, length}, proofs.lemmas.Result.on_ok_weaker}
use Rattle.stack_text.specs.Options.{first_or}
use Rattle.name_tables.{specs.Entries.{look_up, entries_now}, proofs.EntryLaws.{entered, entries_length}}
use Rattle.name_tables.proofs.name_table.NameTable.enter.Goals as goal

pub returns-clause-entered : goal.returns-clause-entered
returns-clause-entered g c =
    on_ok_weaker c.enter.result (λ is other.
    entered (entries_now c.self.inside.values.map.entries) (entries_now c.enter.new.self.map.entries) c.args.name.now c.args.value is other
    ∙ ap (λ entries. first_or (look_up entries other) (bytes_eq other c.args.name.now) c.args.value) c.self.view_is) c.enter.ensures.entered

pub enter-requires : goal.enter-requires
enter-requires g c = λ bounded. omega (arith, c.requires.short bounded, entries_length c.self.inside.values.map.entries, ap length c.self.view_is)
