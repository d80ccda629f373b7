use Rattle.std.{proofs.Common.{◌≡◌, [], Err, refl, sym, ◌∙◌}, proofs.lemmas.Result.err_from_is_err_and}
use Rattle.piton_syntax.specs.Grammar.{argument_of, arguments_of, one}
use Rattle.stack_text.{specs.Views.TreeView.node_of, proofs.PartLaws.first_of_value, proofs.TreeListLaws.{not_one, one_part}}
use Rattle.piton_syntax.specs.declared.argument.Arguments.TheVariants as row
use Rattle.piton_syntax.proofs.reading.argument.one_argument.Goals as goal

pub returns-then-trees-ne1 : goal.returns-then-trees-ne1
returns-then-trees-ne1 g c =
    rw (c.into.ensures, c.wrong_arguments.ensures) (
      [],
      not_one (λ ts. arguments_of (row.One c.args.kind) c.args.place ts ≡ Err (record { place = c.args.place; rule = 7 }, [])) refl
          (λ t u ts. refl) c.args.trees.now c.if-trees-ne1.true,
    )

pub returns-then-not-is_of_kind : goal.returns-then-not-is_of_kind
returns-then-not-is_of_kind g c =
    rw (
      c.into-then-not-is_of_kind.ensures,
      c.wrong_arguments-then-not-is_of_kind.ensures,
      one_part c.args.trees.now c.index-trees-0.result c.if-trees-ne1.false c.index-trees-0.is,
      sym c.is_of_kind.ensures ∙ c.if-not-is_of_kind.true,
    )
    ([], refl)

pub returns-in_err-only : goal.returns-in_err-only
returns-in_err-only g c =
    let p = err_from_is_err_and c.from_residual.result c.from_residual.ensures.1 in
    rw (
      p.1,
      p.2,
      one_part c.args.trees.now c.index-trees-0.result c.if-trees-ne1.false c.index-trees-0.is,
      sym c.is_of_kind.ensures
          ∙ c.if-not-is_of_kind.false,
    )
    (first_of_value (g.H.Heap.may_refuse c.args.heap) c.in_err-only.field-0.0 one (argument_of c.args.kind (node_of c.index-trees-0.result))
    c.in_err-only.ensures)

pub returns : goal.returns
returns g c =
    rw (
      one_part c.args.trees.now c.index-trees-0.result c.if-trees-ne1.false c.index-trees-0.is,
      sym c.is_of_kind.ensures ∙ c.if-not-is_of_kind.false,
      c.in_ok-only.ensures,
      c.in_ok-push.ensures.items,
      c.new-arguments.ensures.items,
    )
    refl
