use Rattle.std.proofs.Common.{arith}
use Rattle.stack_text.{specs.Views.TreeView.node_of, proofs.LengthLaws.longest_in-text}
use Rattle.stack_text.proofs.reader.read_owned.Goals as goal

pub to_owned-requires : goal.to_owned-requires
to_owned-requires g c = λ bounded.
    omega (arith, longest_in-text c.args.text.now (node_of c.in_ok-tree.tree) c.in_ok-tree.ensures.value.1, c.requires.short bounded)
