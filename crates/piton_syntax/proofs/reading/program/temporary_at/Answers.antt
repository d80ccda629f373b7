use Rattle.std.{proofs.Common.{[], refl}, proofs.lemmas.Result.err_from_is_err_and}
use Rattle.stack_text.{specs.Views.TreeView.node_of, proofs.PartLaws.{first_of_2, first_of_value}, proofs.TreeListLaws.two_parts}
use Rattle.piton_syntax.{specs.Grammar.{named_of, pair, word_of}, proofs.ProgramLaws.not_two_of_temporary}
use Rattle.piton_syntax.proofs.reading.program.temporary_at.Goals as goal

pub returns-then-items-ne2 : goal.returns-then-items-ne2
returns-then-items-ne2 g c = rw (c.into.ensures, c.no_program.ensures) ([], not_two_of_temporary c.args.place c.args.items.now c.if-items-ne2.true)

pub returns-in_err-name : goal.returns-in_err-name
returns-in_err-name g c =
    let p = err_from_is_err_and c.from_residual.result c.from_residual.ensures.1 in
    rw (p.1, p.2, two_parts c.args.items.now c.index-items-0.result c.index-items-1.result c.if-items-ne2.false c.index-items-0.is c.index-items-1.is)
    (first_of_2 (g.H.Heap.may_refuse c.args.heap) c.in_err-name.field-0.0 pair (named_of (node_of c.index-items-0.result))
    (word_of (node_of c.index-items-1.result)) c.in_err-name.ensures)

pub returns-in_err-word : goal.returns-in_err-word
returns-in_err-word g c =
    let p = err_from_is_err_and c.from_residual-in_err-word.result c.from_residual-in_err-word.ensures.1 in
    rw (
      p.1,
      p.2,
      two_parts c.args.items.now c.index-items-0.result c.index-items-1.result c.if-items-ne2.false c.index-items-0.is c.index-items-1.is,
      c.in_ok-name.ensures,
    )
    (first_of_value (g.H.Heap.may_refuse c.args.heap) c.in_err-word.field-0.0 (pair c.in_ok-name.name) (word_of (node_of c.index-items-1.result))
    c.in_err-word.ensures)

pub returns : goal.returns
returns g c = rw (
  two_parts c.args.items.now c.index-items-0.result c.index-items-1.result c.if-items-ne2.false c.index-items-0.is c.index-items-1.is,
  c.in_ok-name.ensures,
  c.in_ok-word.ensures,
) refl
