use Rattle.std.proofs.Common.{◌≡◌, [], Err, refl}
use Rattle.stack_text.{specs.Trees.list, proofs.TreeListLaws.not_three}
use Rattle.gypsy_syntax.specs.Grammar.{type_in}
use Rattle.gypsy_syntax.proofs.reading.declaration.array_at.Goals as goal

pub returns-then-items-ne3 : goal.returns-then-items-ne3
returns-then-items-ne3 c =
    rw c.no_type.ensures (
      [],
      not_three (λ ts. type_in (list c.args.place ts) ≡ Err (record { place = c.args.place; rule = 7 }, [])) refl (λ t. refl) (λ t u. refl)
          (λ t u v w ts. refl) c.args.items.now c.if-items-ne3.true,
    )
