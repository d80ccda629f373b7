use Rattle.std.proofs.Common.{arith}
use Rattle.stack_text.{proofs.TreeViewLaws.node_of-list, proofs.TreeListLaws.count_of_all}
use Rattle.stack_text.proofs.grammar.part.list_length.Goals as goal

pub returns-in-List : goal.returns-in-List
returns-in-List c = rw (c.in-List.is, node_of-list c.in-List.place c.in-List.items) (omega (arith, count_of_all c.in-List.items.items, c.len.ensures))
