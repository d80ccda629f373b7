use Rattle.std.{proofs.Common.{◌≡◌, ◌≢◌, [], length, sym, ◌∙◌, arith}, proofs.lemmas.Bool.{eqb-false, eqb-true}}
use Rattle.stack_text.{proofs.TreeViewLaws.node_of-list, proofs.TreeListLaws.{three_parts, no_parts}}
use Rattle.piton_syntax.proofs.InstructionLaws.{not_three_behind, behind_atom, behind_items}
use Rattle.piton_syntax.proofs.reading.instruction.labelled.Goals as goal

pub returns-then-parts-ne3 : goal.returns-then-parts-ne3
returns-then-parts-ne3 g c = rw (c.into.ensures, c.no_instruction.ensures) ([], not_three_behind c.args.place c.args.parts.now c.if-parts-ne3.true)

pub returns-in-Atom : goal.returns-in-Atom
returns-in-Atom g c =
    rw (c.into-in-Atom.ensures, c.no_instruction-in-Atom.ensures) (
      [],
      behind_atom c.args.place c.args.parts.now c.index-parts-1.result c.if-parts-ne3.false c.index-parts-1.is c.in-Atom.place c.in-Atom.text
          c.in-Atom.is,
    )

pub returns-then-is_empty : goal.returns-then-is_empty
returns-then-is_empty g c =
    let empty : length c.in-List.items.items ≡ 0 = omega (arith, eqb-true c.in-List.items.len 0 (sym c.is_empty.ensures ∙ c.if-is_empty.true)) in
    rw (
      three_parts c.args.parts.now c.index-parts-0.result c.index-parts-1.result c.index-parts-2.result c.if-parts-ne3.false c.index-parts-0.is
          c.index-parts-1.is c.index-parts-2.is,
      c.in-List.is,
      node_of-list c.in-List.place c.in-List.items,
      no_parts c.in-List.items.items empty,
    )
    c.called.ensures

pub returns-else-is_empty : goal.returns-else-is_empty
returns-else-is_empty g c =
    let some : c.in-List.items.len ≢ 0 = eqb-false c.in-List.items.len 0 (sym c.is_empty.ensures ∙ c.if-is_empty.false) in
    rw (c.into-else-is_empty.ensures, c.no_instruction-else-is_empty.ensures) (
      [],
      behind_items c.args.place c.args.parts.now c.index-parts-1.result c.if-parts-ne3.false c.index-parts-1.is c.in-List.place c.in-List.items
          c.in-List.is (omega arith),
    )
