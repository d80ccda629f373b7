use Rattle.std.proofs.Common.{◌≡◌, [], Some, Err, refl}
use Rattle.piton_syntax.specs.Grammar.{item_of}
use Rattle.piton_syntax.specs.declared.tag.Tag.TheVariants as tags
use Rattle.stack_text.proofs.TreeListLaws.{not_one}
use Rattle.piton_syntax.proofs.reading.word.subr_item.Goals as goal

pub returns-then-parts-ne1 : goal.returns-then-parts-ne1
returns-then-parts-ne1 g c =
    rw (c.into.ensures, c.no_word.ensures) (
      [],
      not_one
          (λ ts. item_of (Some tags.Subr) c.args.place ts ≡ Err (record { place = c.args.place; rule = 5 }, [])) refl (λ t u ts. refl) c.args.parts.now
          c.if-parts-ne1.true,
    )
