use Rattle.std.proofs.Common.{ap, ◌∙◌}
use Rattle.stack_text.specs.Names.{place_among}
use Rattle.name_tables.proofs.ListLaws.{place_now}
use Rattle.name_tables.proofs.name_list.NameList.place.Goals as goal

pub returns : goal.returns
returns c =
    c.get_index_of.ensures.index ∙ place_now c.args.name.now c.self.inside.names.map.entries ∙ ap (place_among c.args.name.now) c.self.view_is
