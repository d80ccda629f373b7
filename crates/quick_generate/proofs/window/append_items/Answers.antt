use Rattle.std.{proofs.Common.{◌≡◌, ◌++◌, [], ◌∷◌, List, get_or, map, refl, rules}, specs.Prelude.{ℤ, pos}, proofs.lemmas.List.get_or_default}
use Rattle.fm_words.specs.Word.{word_of_int}
use Rattle.gypsy_codegen.proofs.WriteLaws.{more_next}
use Rattle.quick_generate.proofs.window.append_items.Goals as goal

pub loop-item-preserved : goal.loop-item-preserved
loop-item-preserved g c =
    let items = c.args.items.now in
    let k = c.loop-item.item-index in
    let z : ℤ = get_or items k (pos 0) in
    let word = word_of_int z in
    let pushed : c.push.new.items.items ≡ c.loop-item.numbers.items ++ word ∷ [] = search rules in
    more_next (λ (zs : List ℤ). map word_of_int zs) items k z (word ∷ []) c.loop-item.numbers.items c.push.new.items.items _
    c.loop-item-test.true (get_or_default items k (pos 0) z c.loop-item-test.true) refl pushed c.loop-item.invariant
