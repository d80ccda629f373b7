use Rattle.std.{proofs.Common.{◌≡◌, [], Err, Some, length, refl, sym, ◌∙◌}, proofs.lemmas.Bool.eqb-false}
use Rattle.stack_text.proofs.TreeListLaws.{not_none}
use Rattle.gypsy_syntax.specs.declared.keyword.Keyword.TheVariants as word
use Rattle.gypsy_syntax.specs.Grammar.{form_in}
use Rattle.gypsy_syntax.proofs.reading.statements.no_op.Goals as goal

pub returns-else-is_empty : goal.returns-else-is_empty
returns-else-is_empty c =
    rw c.wrong_items.ensures (
      [],
      not_none (λ ts. form_in (Some word.NoOp) c.args.place ts ≡ Err (record { place = c.args.place; rule = 10 }, [])) (λ t ts. refl) c.args.parts.now
          (eqb-false (length c.args.parts.now) 0 (sym c.is_empty.ensures ∙ c.if-is_empty.false)),
    )
