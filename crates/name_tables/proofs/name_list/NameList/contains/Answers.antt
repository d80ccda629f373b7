use Rattle.std.proofs.Common.{is_some, ap, ◌∙◌}
use Rattle.stack_text.specs.Names.{is_among}
use Rattle.name_tables.{specs.Entries.entries_now, proofs.EntryLaws.found_borrowed, proofs.ListLaws.listed}
use Rattle.name_tables.proofs.name_list.NameList.contains.Goals as goal

pub returns : goal.returns
returns c =
    c.contains_key.ensures ∙ ap (λ o. is_some o) (found_borrowed c.self.inside.names.map.entries c.args.name.now)
    ∙ listed (entries_now c.self.inside.names.map.entries) c.args.name.now ∙ ap (is_among c.args.name.now) c.self.view_is
