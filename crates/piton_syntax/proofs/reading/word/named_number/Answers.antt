use Rattle.std.{proofs.Common.{◌≡◌, [], Err, refl, sym, ◌∙◌}, proofs.lemmas.Result.err_from_is_err_and}
use Rattle.stack_text.{specs.Views.TreeView.node_of, specs.declared.grammar.fault.FormFault.TheVariants.Form, proofs.PartLaws.{first_of_2, first_of_value}}
use Rattle.stack_text.proofs.TreeListLaws.{not_two, two_parts}
use Rattle.piton_syntax.specs.Grammar.{named_number, named_of, number_of}
use Rattle.piton_syntax.proofs.reading.word.named_number.Goals as goal

pub returns-then-parts-ne2 : goal.returns-then-parts-ne2
returns-then-parts-ne2 g c make =
    rw (c.into.ensures, c.no_word.ensures) (
      [],
      not_two (λ ts. named_number make c.args.place ts ≡ Err (record { place = c.args.place; rule = 5 }, []))
          refl (λ t. refl) (λ t u v ts. refl) c.args.parts.now c.if-parts-ne2.true,
    )

pub returns-then-not-is_named_number : goal.returns-then-not-is_named_number
returns-then-not-is_named_number g c make =
    rw (
      c.into-then-not-is_named_number.ensures,
      c.no_word-then-not-is_named_number.ensures,
      two_parts c.args.parts.now c.index-parts-0.result c.index-parts-1.result c.if-parts-ne2.false c.index-parts-0.is c.index-parts-1.is,
      sym c.is_named_number.ensures ∙ c.if-not-is_named_number.true,
    )
    ([], refl)

pub returns-in_err-name : goal.returns-in_err-name
returns-in_err-name g c make =
    let p = err_from_is_err_and c.from_residual.result c.from_residual.ensures.1 in
    rw (
      p.1,
      p.2,
      two_parts c.args.parts.now c.index-parts-0.result c.index-parts-1.result c.if-parts-ne2.false c.index-parts-0.is c.index-parts-1.is,
      sym c.is_named_number.ensures ∙ c.if-not-is_named_number.false,
    )
    (first_of_2 (g.H.Heap.may_refuse c.args.heap) c.in_err-name.field-0.0 make
    (named_of (node_of c.index-parts-0.result)) (number_of (node_of c.index-parts-1.result)) c.in_err-name.ensures)

pub returns-in_err-number : goal.returns-in_err-number
returns-in_err-number g c make =
    let p = err_from_is_err_and c.from_residual-in_err-number.result c.from_residual-in_err-number.ensures.1 in
    rw (
      p.1,
      p.2,
      two_parts c.args.parts.now c.index-parts-0.result c.index-parts-1.result c.if-parts-ne2.false c.index-parts-0.is c.index-parts-1.is,
      sym c.is_named_number.ensures ∙ c.if-not-is_named_number.false,
      c.in_ok-name.ensures,
    )
    (first_of_value (g.H.Heap.may_refuse c.args.heap) (Form c.in_err-number.field-0.0.rule c.in_err-number.field-0.0.place)
    (make c.in_ok-name.name) (number_of (node_of c.index-parts-1.result)) c.in_err-number.ensures)

pub returns : goal.returns
returns g c make =
    rw (
      two_parts c.args.parts.now c.index-parts-0.result c.index-parts-1.result c.if-parts-ne2.false c.index-parts-0.is c.index-parts-1.is,
      sym c.is_named_number.ensures ∙ c.if-not-is_named_number.false,
      c.in_ok-name.ensures,
      c.in_ok-number.ensures,
    )
    refl
