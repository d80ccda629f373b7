use Rattle.std.proofs.Common.{◌≡◌, [], Err, Some, refl}
use Rattle.stack_text.proofs.TreeListLaws.{not_three, three_parts}
use Rattle.gypsy_syntax.specs.declared.keyword.Keyword.TheVariants as word
use Rattle.gypsy_syntax.specs.Grammar.{form_in}
use Rattle.gypsy_syntax.proofs.reading.statements.call.Goals as goal

pub returns-then-parts-ne3 : goal.returns-then-parts-ne3
returns-then-parts-ne3 g c =
    rw (c.into.ensures, c.wrong_items.ensures) (
      [],
      not_three (λ ts. form_in (Some word.Call) c.args.place ts ≡ Err (record { place = c.args.place; rule = 10 }, [])) refl (λ t. refl)
          (λ t u. refl) (λ t u v w ts. refl) c.args.parts.now c.if-parts-ne3.true,
    )

pub returns : goal.returns
returns g c =
    rw (three_parts c.args.parts.now c.index-parts-0.result c.index-parts-1.result c.index-parts-2.result c.if-parts-ne3.false c.index-parts-0.is
    c.index-parts-1.is c.index-parts-2.is) c.call_parts.ensures
