use Rattle.std.proofs.Common.{[], refl}
use Rattle.stack_text.proofs.TreeViewLaws.{node_of-atom, node_of-list}
use Rattle.piton_syntax.proofs.ItemLaws.{no_items, first_item}
use Rattle.piton_syntax.proofs.reading.instruction.called_items.Goals as goal

pub returns-then-is_empty : goal.returns-then-is_empty
returns-then-is_empty g c = rw (c.into.ensures, c.no_instruction.ensures, no_items c.args.items.now c.is_empty.ensures c.if-is_empty.true) ([], refl)

pub returns-in-List : goal.returns-in-List
returns-in-List g c =
    rw (
      c.into-in-List.ensures,
      c.no_instruction-in-List.ensures,
      first_item c.args.items.now c.index-items-0.result c.is_empty.ensures c.if-is_empty.false c.index-items-0.is c.in-List.is
          (node_of-list c.in-List.place c.in-List.items),
    )
    ([], refl)

pub returns-in-Atom : goal.returns-in-Atom
returns-in-Atom g c =
    rw (
    first_item c.args.items.now c.index-items-0.result c.is_empty.ensures c.if-is_empty.false c.index-items-0.is c.in-Atom.is
    (node_of-atom c.in-Atom.place c.in-Atom.text)
    )
    c.called_at.ensures
