use Rattle.std.{proofs.Common.{◌≡◌, [], Err, Some, refl}, proofs.lemmas.Result.err_from_is_err_and}
use Rattle.stack_text.{specs.Views.TreeView.node_of, proofs.PartLaws.first_of_value, proofs.TreeListLaws.{not_one, one_part}}
use Rattle.gypsy_syntax.specs.declared.keyword.Keyword.TheVariants as word
use Rattle.gypsy_syntax.{specs.Grammar.{form_in, named_in}, specs.Sources.signal}
use Rattle.gypsy_syntax.proofs.reading.statements.signal.Goals as goal

pub returns-then-parts-ne1 : goal.returns-then-parts-ne1
returns-then-parts-ne1 g c =
    rw (c.into.ensures, c.wrong_items.ensures) (
      [],
      not_one (λ ts. form_in (Some word.Signal) c.args.place ts ≡ Err (record { place = c.args.place; rule = 10 }, [])) refl (λ t u ts. refl)
          c.args.parts.now c.if-parts-ne1.true,
    )

pub returns-in_err-cond : goal.returns-in_err-cond
returns-in_err-cond g c =
    let p = err_from_is_err_and c.from_residual.result c.from_residual.ensures.1 in
    rw (p.1, p.2, one_part c.args.parts.now c.index-parts-0.result c.if-parts-ne1.false c.index-parts-0.is)
    (first_of_value (g.H.Heap.may_refuse c.args.heap) c.in_err-cond.field-0.0 (signal c.args.place) (named_in (node_of c.index-parts-0.result))
    c.in_err-cond.ensures)

pub returns : goal.returns
returns g c = rw (one_part c.args.parts.now c.index-parts-0.result c.if-parts-ne1.false c.index-parts-0.is, c.in_ok-cond.ensures) refl
