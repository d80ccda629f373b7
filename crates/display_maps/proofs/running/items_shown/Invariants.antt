use Rattle.std.proofs.Common.{◌≡◌, ◌++◌, map, drop}
use Rattle.fm_words.specs.Word.{word_of_int}
use Rattle.display_maps.specs.Reading.{item_of}
use Rattle.display_maps.proofs.running.items_shown.Given as goal

abbrev pub invariant-loop-item : goal.invariant-loop-item
invariant-loop-item g l =
    l.shown.items ++ map (λ item. item_of l.kind (word_of_int item)) (drop l.item-index l.items) ≡ map (λ item. item_of l.kind (word_of_int item)) l.items
