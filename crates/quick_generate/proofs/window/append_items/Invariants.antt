use Rattle.std.proofs.Common.{◌≡◌, ◌++◌, map, drop}
use Rattle.fm_words.specs.Word.{word_of_int}
use Rattle.quick_generate.proofs.window.append_items.Given as goal

abbrev pub invariant-loop-item : goal.invariant-loop-item
invariant-loop-item g l = l.numbers.items ++ map word_of_int (drop l.item-index l.items) ≡ l.initial.numbers.items ++ map word_of_int l.items
