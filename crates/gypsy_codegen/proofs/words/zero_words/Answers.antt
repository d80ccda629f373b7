use Rattle.std.{proofs.Common.{◌≡◌, ◌++◌, [], ◌∷◌, List, map, refl, rules}, specs.Prelude.{ℤ, pos}}
use Rattle.gypsy_predef.specs.Runs.{word_of_item}
use Rattle.gypsy_codegen.{specs.Internal.Views.nameless, specs.Written.written_word, proofs.WriteLaws.copy_next}
use Rattle.gypsy_codegen.proofs.words.zero_words.Goals as goal

pub loop-made-preserved : goal.loop-made-preserved
loop-made-preserved g c =
    let word = written_word nameless (word_of_item c.args.shape.kind (pos 0)) in
    let pushed : c.push.new.items.items ≡ c.loop-made.words.items ++ word ∷ [] = search rules in
    copy_next (λ (zs : List ℤ). map (written_word nameless) (map (word_of_item c.args.shape.kind) zs)) (pos 0)
    c.item_count-made-end.result c.loop-made._made (word ∷ []) c.loop-made.words.items c.push.new.items.items _ c.loop-made-test.true
    (λ zs. refl) pushed c.loop-made.invariant
