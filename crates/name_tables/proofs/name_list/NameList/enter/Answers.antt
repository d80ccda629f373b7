use Rattle.std.{proofs.Common.{not, ap, ◌∙◌, arith, length}, specs.Prelude.{List, ℕ}}
use Rattle.stack_text.specs.Names.{is_among}
use Rattle.name_tables.{specs.Entries.entries_now, specs.Lists.with_name, proofs.ListLaws.{listed, names_length, with_now}}
use Rattle.name_tables.proofs.name_list.NameList.enter.Goals as goal

pub returns-clause-new : goal.returns-clause-new
returns-clause-new g c =
    ap not (c.in_ok-is_known.ensures.known ∙ listed (entries_now c.self.inside.names.map.entries) c.args.name.now
    ∙ ap (is_among c.args.name.now) c.self.view_is)

pub returns-clause-names : goal.returns-clause-names
returns-clause-names g c =
    with_now (entries_now c.self.inside.names.map.entries) (entries_now c.enter.new.self.map.entries) c.args.name.now _ c.in_ok-is_known.ensures.entered
    ∙ ap (λ (names : List (List ℕ)). with_name names c.args.name.now) c.self.view_is

pub enter-requires : goal.enter-requires
enter-requires g c = λ bounded. omega (arith, c.requires bounded, names_length c.self.inside.names.map.entries, ap length c.self.view_is)
