use Rattle.std.proofs.Common.{◌≡◌, [], Err, refl}
use Rattle.stack_text.{specs.Trees.list, proofs.TreeListLaws.{not_two, two_parts}}
use Rattle.gypsy_syntax.specs.Grammar.{decl_in}
use Rattle.gypsy_syntax.proofs.reading.declaration.decl_at.Goals as goal

pub returns-then-items-ne2 : goal.returns-then-items-ne2
returns-then-items-ne2 g c =
    rw (c.into.ensures, c.no_formal.ensures) (
      [],
      not_two (λ ts. decl_in (list c.args.place ts) ≡ Err (record { place = c.args.place; rule = 4 }, [])) refl (λ t. refl) (λ t u v ts. refl)
          c.args.items.now c.if-items-ne2.true,
    )

pub returns : goal.returns
returns g c = rw (two_parts c.args.items.now c.index-items-0.result c.index-items-1.result c.if-items-ne2.false c.index-items-0.is c.index-items-1.is)
    c.decl_parts.ensures
