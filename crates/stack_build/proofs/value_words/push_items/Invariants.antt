use Rattle.std.proofs.Common.{◌≡◌, ◌++◌, map, drop}
use Rattle.gypsy_predef.specs.Runs.{word_of_item}
use Rattle.stack_build.proofs.value_words.push_items.Given as goal

abbrev pub invariant-loop-item : goal.invariant-loop-item
invariant-loop-item g l =
    l.words.items ++ map (word_of_item l.kind) (drop l.item-index l.items)
    ≡ l.initial.words.items ++ map (word_of_item l.kind) l.items
