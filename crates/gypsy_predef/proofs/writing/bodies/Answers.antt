use Rattle.std.proofs.Common.{map, ap, ◌∙◌}
use Rattle.gypsy_predef.{specs.Texts.body_text, proofs.ResolvingLaws.{do_calls, do_rows}}
use Rattle.gypsy_predef.proofs.writing.bodies.Goals as goal

pub returns-clause-rows : goal.returns-clause-rows
returns-clause-rows g c = do_rows c.in_ok-programs.programs.items (c.in_ok-programs.ensures ∙ ap (map body_text) c.predefs.ensures)

pub returns-clause-calls : goal.returns-clause-calls
returns-clause-calls g c = do_calls c.in_ok-programs.programs.items (c.in_ok-programs.ensures ∙ ap (map body_text) c.predefs.ensures)
