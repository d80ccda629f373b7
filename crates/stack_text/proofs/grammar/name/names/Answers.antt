use Rattle.std.proofs.Common.{ap, arith, length}
use Rattle.stack_text.{specs.Grammar.Parts.list_length, specs.Views.TreeView.node_of, specs.declared.tree.TextTree.TextTree, proofs.TreeViewLaws.node_of-list}
use Rattle.stack_text.proofs.TreeListLaws.{count_of_all}
use Rattle.stack_text.proofs.grammar.name.names.Goals as goal

pub each_name-requires : goal.each_name-requires
each_name-requires g c = λ bounded.
    omega (
      arith,
      c.requires bounded,
      ap length c.deref.ensures.value,
      ap (λ (t : TextTree). list_length (node_of t)) c.in-List.is,
      ap list_length (node_of-list c.in-List.place c.in-List.items),
      count_of_all c.in-List.items.items,
    )
