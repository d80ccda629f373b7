use Rattle.std.{proofs.Common.{◌≡◌, ◌++◌, ◌-◌, map, replicate}, specs.Prelude.pos}
use Rattle.gypsy_predef.specs.Runs.{word_of_item}
use Rattle.gypsy_codegen.{specs.Internal.Views.nameless, specs.Written.written_word}
use Rattle.gypsy_codegen.proofs.words.zero_words.Given as goal

abbrev pub invariant-loop-made : goal.invariant-loop-made
invariant-loop-made g l =
    l.words.items ++ map (written_word nameless) (map (word_of_item l.shape.kind) (replicate (l._made-end - l._made) (pos 0))) ≡
    l.initial.words.items ++ map (written_word nameless) (map (word_of_item l.shape.kind) (replicate l._made-end (pos 0)))
