use Rattle.std.{proofs.Common.{◌≡◌, ℕ, List, Bool, [], Err, refl, sym, ◌∙◌}, specs.Prelude.if◌then◌else◌}
use Rattle.stack_text.{specs.Numerals.{is_digits, is_numeral}, specs.Views.TreeView.node_of, proofs.TreeListLaws.{not_one, one_part}}
use Rattle.piton_syntax.{specs.Grammar.{number_of, one_number}, proofs.ItemLaws.finds_made}
use Rattle.piton_syntax.proofs.reading.word.one_number.Goals as goal

pub returns-then-parts-ne1 : goal.returns-then-parts-ne1
returns-then-parts-ne1 c make =
    let test : List ℕ → Bool = if c.args.may_have_sign then is_numeral else is_digits in
    rw c.no_word.ensures (
      [],
      not_one (λ ts. one_number test make c.args.place ts ≡ Err (record { place = c.args.place; rule = 5 }, []))
          refl (λ t u ts. refl) c.args.parts.now c.if-parts-ne1.true,
    )

pub returns-then-not-is_number_atom : goal.returns-then-not-is_number_atom
returns-then-not-is_number_atom c make =
    rw (
      c.no_word-then-not-is_number_atom.ensures,
      one_part c.args.parts.now c.index-parts-0.result c.if-parts-ne1.false c.index-parts-0.is,
      sym c.is_number_atom.ensures ∙ c.if-not-is_number_atom.true,
    )
    ([], refl)

pub returns : goal.returns
returns c make =
    rw (
      one_part c.args.parts.now c.index-parts-0.result c.if-parts-ne1.false c.index-parts-0.is,
      sym c.is_number_atom.ensures ∙ c.if-not-is_number_atom.false,
    )
    (finds_made make c.number.result (number_of (node_of c.index-parts-0.result)) c.number.ensures)
