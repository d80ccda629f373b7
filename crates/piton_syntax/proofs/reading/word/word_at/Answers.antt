use Rattle.std.{proofs.Common.{[], refl, sym}, proofs.lemmas.Result.err_from_is_err_and}
use Rattle.stack_text.{specs.Views.TreeView.nodes_of, proofs.PartLaws.first_of_value, proofs.TreeListLaws.rest, proofs.TreeViewLaws.node_of-atom}
use Rattle.stack_text.proofs.TreeViewLaws.{node_of-list}
use Rattle.piton_syntax.{specs.Grammar.item_of, specs.Systems.new_word, proofs.ItemLaws.{no_items, first_item}}
use Rattle.piton_syntax.proofs.reading.word.word_at.Goals as goal

pub returns-then-is_empty : goal.returns-then-is_empty
returns-then-is_empty g c = rw (c.into.ensures, c.no_word.ensures, no_items c.args.items.now c.is_empty.ensures c.if-is_empty.true) ([], refl)

pub returns-in-List : goal.returns-in-List
returns-in-List g c =
    rw (
      c.into-in-List.ensures,
      c.no_word-in-List.ensures,
      first_item c.args.items.now c.index-items-0.result c.is_empty.ensures c.if-is_empty.false c.index-items-0.is c.in-List.is
          (node_of-list c.in-List.place c.in-List.items),
    )
    ([], refl)

pub returns-in_err-item-in-Atom : goal.returns-in_err-item-in-Atom
returns-in_err-item-in-Atom g c =
    let p = err_from_is_err_and c.from_residual.result c.from_residual.ensures.1 in
    rw (
      p.1,
      p.2,
      first_item c.args.items.now c.index-items-0.result c.is_empty.ensures c.if-is_empty.false c.index-items-0.is c.in-Atom.is
          (node_of-atom c.in-Atom.place c.in-Atom.text),
      sym c.tag_named.ensures,
    )
    (first_of_value (g.H.Heap.may_refuse c.args.heap) c.in_err-item-in-Atom.field-0.0 (new_word c.args.place)
    (item_of c.tag_named.result c.args.place (nodes_of (rest 1 c.args.items.now))) c.in_err-item-in-Atom.ensures)

pub returns-in_ok-item-in-Atom : goal.returns-in_ok-item-in-Atom
returns-in_ok-item-in-Atom g c =
    rw (
      first_item c.args.items.now c.index-items-0.result c.is_empty.ensures c.if-is_empty.false c.index-items-0.is c.in-Atom.is
          (node_of-atom c.in-Atom.place c.in-Atom.text),
      sym c.tag_named.ensures,
      c.in_ok-item-in-Atom.ensures,
    )
    refl
