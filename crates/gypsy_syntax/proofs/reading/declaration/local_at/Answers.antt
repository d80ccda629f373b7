use Rattle.std.proofs.Common.{◌≡◌, [], Err, refl}
use Rattle.stack_text.{specs.Trees.list, proofs.TreeListLaws.{not_three, three_parts}}
use Rattle.gypsy_syntax.specs.Grammar.{local_in}
use Rattle.gypsy_syntax.proofs.reading.declaration.local_at.Goals as goal

pub returns-then-items-ne3 : goal.returns-then-items-ne3
returns-then-items-ne3 g c =
    rw (c.into.ensures, c.no_local.ensures) (
      [],
      not_three (λ ts. local_in (list c.args.place ts) ≡ Err (record { place = c.args.place; rule = 6 }, [])) refl (λ t. refl) (λ t u. refl)
          (λ t u v w ts. refl) c.args.items.now c.if-items-ne3.true,
    )

pub returns : goal.returns
returns g c =
    rw (three_parts c.args.items.now c.index-items-0.result c.index-items-1.result c.index-items-2.result c.if-items-ne3.false c.index-items-0.is
    c.index-items-1.is c.index-items-2.is) c.local_parts.ensures
