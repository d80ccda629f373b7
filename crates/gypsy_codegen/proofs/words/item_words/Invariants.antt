use Rattle.std.proofs.Common.{◌≡◌, ◌++◌, map, drop}
use Rattle.gypsy_predef.specs.Runs.{word_of_item}
use Rattle.gypsy_codegen.{specs.Internal.Views.nameless, specs.Written.written_word}
use Rattle.gypsy_codegen.proofs.words.item_words.Given as goal

abbrev pub invariant-loop-item : goal.invariant-loop-item
invariant-loop-item g l =
    l.words.items ++ map (written_word nameless) (map (word_of_item l.kind) (drop l.item-index l.items)) ≡
    l.initial.words.items ++ map (written_word nameless) (map (word_of_item l.kind) l.items)
