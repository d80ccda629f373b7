use Rattle.std.proofs.Common.{◌++◌, map}
use Rattle.stack_text.{specs.TreeText.items_text, specs.Views.TreeView.nodes}
use Rattle.piton_syntax.{specs.Printed.temporary_tree, proofs.ItemLaws.items_next}
use Rattle.piton_syntax.proofs.printing.items.print_temporaries.Goals as goal

pub loop-index-preserved : goal.loop-index-preserved
loop-index-preserved g c =
    items_next temporary_tree c.args.temporaries.now c.loop-index.index c.index-temporaries-index.result c.loop-index.out.items c.separate.new.out.items
    c.print_temporary.new.out.items
    (c.args.out.now.items ++ items_text (nodes (map temporary_tree c.args.temporaries.now))) c.loop-index-test.true c.index-temporaries-index.is
    c.in_ok-separate.ensures
    c.in_ok-print_temporary.ensures c.loop-index.invariant
