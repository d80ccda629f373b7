use Rattle.std.proofs.Common.{ap, ◌∙◌}
use Rattle.name_tables.{specs.Entries.look_up, proofs.EntryLaws.found_borrowed}
use Rattle.name_tables.proofs.name_table.NameTable.get.Goals as goal

pub returns-then-len-gt-FEW : goal.returns-then-len-gt-FEW
returns-then-len-gt-FEW g c =
    c.copied.ensures ∙ c.get.ensures.value
    ∙ found_borrowed c.self.inside.values.map.entries c.args.name.now
    ∙ ap (λ entries. look_up entries c.args.name.now) c.self.view_is
