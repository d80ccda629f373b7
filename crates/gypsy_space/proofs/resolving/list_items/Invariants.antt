use Rattle.std.proofs.Common.{◌≡◌, ◌++◌, drop}
use Rattle.gypsy_syntax.{specs.Resolved.items_of_all, specs.Views.SourceView.items_of_list}
use Rattle.gypsy_space.proofs.resolving.list_items.Given as goal

abbrev pub invariant-loop-literal : goal.invariant-loop-literal
invariant-loop-literal g l = l.items.items ++ items_of_all (items_of_list (drop l.literal-index l.literals)) ≡ items_of_all (items_of_list l.literals)
