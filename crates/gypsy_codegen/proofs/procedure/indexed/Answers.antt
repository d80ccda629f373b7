use Rattle.std.proofs.Common.{◌≡◌, ℕ, ◌+◌, ◌<◌, ◌++◌, [], ◌∷◌, List, map, length, drop, get_or, ap, ap₂, sym, ◌∙◌, append_assoc, arith, rules}
use Rattle.std.proofs.lemmas.List.{get_or_default}
use Rattle.stack_text.{proofs.Loops.drop-item, specs.Values.item_count, specs.declared.name.Named.Named, specs.declared.shape.Shape.Shape}
use Rattle.stack_text.specs.Grammar.Printed.{unplaced}
use Rattle.piton_syntax.specs.declared.word_text.WordText.{WordText}
use Rattle.piton_words.specs.declared.word.Word.TheVariants.{Nat}
use Rattle.gypsy_syntax.specs.Programs.{words_of}
use Rattle.gypsy_codegen.{specs.Text.temporaries_of, specs.Internal.Views.nameless, specs.WordsOf.starts, specs.Written.written_word}
use Rattle.gypsy_codegen.proofs.procedure.indexed.Goals as goal

next_one : (names : List (List ℕ)) (shapes : List Shape) (k at size : ℕ) (d : Shape) → k < length names → k < length shapes
    → size ≡ item_count (get_or shapes k d) →
    temporaries_of nameless (drop k names) (map (λ i. Nat i) (starts at (drop k shapes)))
    ≡ (unplaced (get_or names k []), written_word nameless (Nat at)) ∷ temporaries_of nameless (drop (k + 1) names)
    (map (λ i. Nat i) (starts (at + size) (drop (k + 1) shapes)))
next_one names shapes k at size d lt there is =
    let n : List ℕ = get_or names k [] in
    let s : Shape = get_or shapes k d in
    let left : List (List ℕ) = drop (k + 1) names in
    let rest : List Shape = drop (k + 1) shapes in
    ap₂ (λ (ns : List (List ℕ)) (ss : List Shape). temporaries_of nameless ns (map (λ i. Nat i) (starts at ss)))
    (drop-item names k n lt (get_or_default names k [] n lt)) (drop-item shapes k s there (get_or_default shapes k d s there))
    ∙ ap (λ (m : ℕ). (unplaced n, written_word nameless (Nat at)) ∷ temporaries_of nameless left (map (λ i. Nat i) (starts (at + m) rest))) (sym is)

fewer_words : (shapes : List Shape) (k size : ℕ) (d : Shape) → k < length shapes → size ≡ item_count (get_or shapes k d) →
    words_of (drop k shapes) ≡ size + words_of (drop (k + 1) shapes)
fewer_words shapes k size d there is =
    let s : Shape = get_or shapes k d in
    ap words_of (drop-item shapes k s there (get_or_default shapes k d s there)) ∙ ap (λ (m : ℕ). m + words_of (drop (k + 1) shapes)) (sym is)

pub loop-number-preserved : goal.loop-number-preserved
loop-number-preserved g c =
    let names : List (List ℕ) = c.args.names.now in
    let shapes : List Shape = c.args.shapes.now in
    let k = c.loop-number.number in
    let at = c.loop-number.first in
    let size = c.item_count.result in
    let there : k < length shapes = c.loop-number-test.true in
    let lt : k < length names = omega (arith, there, c.requires.each) in
    let words : words_of (drop k shapes) ≡ size + words_of (drop (k + 1) shapes) = fewer_words shapes k size _ there c.item_count.ensures in
    let made = c.loop-number.temporaries.items in
    let pushed : c.push.new.items.items ≡ made ++ (unplaced (get_or names k []), written_word nameless (Nat at)) ∷ [] = search rules in
    let rest : List (Named × WordText) = temporaries_of nameless (drop (k + 1) names) (map (λ i. Nat i) (starts (at + size) (drop (k + 1) shapes))) in
    record {
      words = omega (arith, words, c.loop-number.invariant.words);
      made =
          ap (λ (z : List (Named × WordText)). z ++ rest) pushed ∙ append_assoc made ((unplaced (get_or names k []), written_word nameless (Nat at)) ∷ []) rest
          ∙ ap (λ (z : List (Named × WordText)). made ++ z) (sym (next_one names shapes k at size _ lt there c.item_count.ensures))
          ∙ c.loop-number.invariant.made;
    }
