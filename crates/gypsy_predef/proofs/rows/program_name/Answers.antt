use Rattle.std.proofs.Common.{IsTrue, sym, subst, ◌∙◌}
use Rattle.stack_text.specs.Names.{is_name}
use Rattle.gypsy_predef.proofs.FormLaws.{predef_named}
use Rattle.gypsy_predef.proofs.rows.program_name.Goals as goal

pub returns-clause-is_name : goal.returns-clause-is_name
returns-clause-is_name c = subst (λ bytes. IsTrue (is_name bytes)) (sym (c.as_bytes.ensures.value ∙ c.name.ensures)) (predef_named c.args.row)
