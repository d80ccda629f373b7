use Rattle.std.{proofs.Common.{◌≡◌, [], Err, refl, sym, ◌∙◌}, proofs.lemmas.Result.err_from_is_err_and}
use Rattle.piton_syntax.specs.Grammar.{arguments_of, named_of, test_and_label}
use Rattle.stack_text.{specs.Views.TreeView.node_of, proofs.PartLaws.first_of_value, proofs.TreeListLaws.{not_two, two_parts}}
use Rattle.piton_syntax.specs.declared.argument.Arguments.TheVariants as row
use Rattle.piton_syntax.proofs.reading.argument.test_and_label.Goals as goal

pub returns-then-trees-ne2 : goal.returns-then-trees-ne2
returns-then-trees-ne2 g c =
    rw (c.into.ensures, c.wrong_arguments.ensures) (
      [],
      not_two (λ ts. arguments_of (row.TestAndLabel c.args.family) c.args.place ts ≡ Err (record { place = c.args.place; rule = 7 }, [])) refl
          (λ t. refl) (λ t u v ts. refl) c.args.trees.now c.if-trees-ne2.true,
    )

pub returns-then-not-is_name_atom : goal.returns-then-not-is_name_atom
returns-then-not-is_name_atom g c =
    rw (
      c.into-then-not-is_name_atom.ensures,
      c.wrong_arguments-then-not-is_name_atom.ensures,
      two_parts c.args.trees.now c.index-trees-0.result c.index-trees-1.result c.if-trees-ne2.false c.index-trees-0.is c.index-trees-1.is,
      sym c.in-Some.ensures,
      sym c.is_name_atom.ensures ∙ c.if-not-is_name_atom.true,
    )
    ([], refl)

pub returns-in_err-label : goal.returns-in_err-label
returns-in_err-label g c =
    let p = err_from_is_err_and c.from_residual.result c.from_residual.ensures.1 in
    rw (
      p.1,
      p.2,
      two_parts c.args.trees.now c.index-trees-0.result c.index-trees-1.result c.if-trees-ne2.false c.index-trees-0.is c.index-trees-1.is,
      sym c.in-Some.ensures,
      sym c.is_name_atom.ensures ∙ c.if-not-is_name_atom.false,
    )
    (first_of_value (g.H.Heap.may_refuse c.args.heap) c.in_err-label.field-0.0 (test_and_label c.in-Some.test)
    (named_of (node_of c.index-trees-1.result)) c.in_err-label.ensures)
