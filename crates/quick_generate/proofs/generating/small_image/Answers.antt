use Rattle.quick_generate.{specs.QuickOf.{whole_image, image_size, window_end}, specs.Sums.limited, proofs.GivenLaws.{image_given, none_given}}
use Rattle.quick_generate.proofs.PlacedLaws.{conds_few, image_words}
use Rattle.std.proofs.Common.{◌≡◌, ◌≤◌, ◌<◌, ◌∙◌, ap, sym, refl, ℕ, List, Some, arith}
use Rattle.fm_words.specs.WindowLimit.{most_window}
use Rattle.fm_image.specs.Image.{ImageOf}
use Rattle.gypsy_syntax.{specs.Programs.{Proc, shapes_of, words_of}, specs.Sources.SourceOf, specs.Views.SourceView.source_of}
use Rattle.gypsy_space.specs.Nodes.{seen_proc}
use Rattle.quick_generate.proofs.generating.small_image.Goals as goal

pub new-anywhere-requires-clause-room : goal.new-anywhere-requires-clause-room
new-anywhere-requires-clause-room g c = omega (arith, c.requires.main.words, ap words_of c.in_ok-shapes.ensures)

pub image_size-words-requires : goal.image_size-words-requires
image_size-words-requires g c = conds_few (source_of c.args.accepted.now) (seen_proc c.args.main.now) c.requires.accepted c.requires.main

pub returns-then-words-from : goal.returns-then-words-from
returns-then-words-from g c =
    let s : SourceOf = source_of c.args.accepted.now in
    let p : Proc = seen_proc c.args.main.now in
    let vs : List ℕ = c.args.chosen.items in
    let shapes : c.new-anywhere.result.shapes.items ≡ shapes_of p = c.new-anywhere.ensures.shapes ∙ c.in_ok-shapes.ensures in
    let counted : c.image_size-words.result ≡ limited (image_size vs p) =
    image_words c.new-anywhere.result c.args.main.now vs p c.image_size-words.result c.new-anywhere.ensures.chosen shapes refl
    c.image_size-words.ensures in
    let large : most_window < image_size vs p = omega (arith, counted, c.if-words-from.true, c.from.ensures) in
    sym (none_given vs s p c.args.base large)

pub placed-requires-clause-end : goal.placed-requires-clause-end
placed-requires-clause-end g c =
    let s : SourceOf = source_of c.args.accepted.now in
    let p : Proc = seen_proc c.args.main.now in
    let vs : List ℕ = c.args.chosen.items in
    let shapes : c.new-anywhere.result.shapes.items ≡ shapes_of p = c.new-anywhere.ensures.shapes ∙ c.in_ok-shapes.ensures in
    let counted : c.image_size-words.result ≡ limited (image_size vs p) =
    image_words c.new-anywhere.result c.args.main.now vs p c.image_size-words.result c.new-anywhere.ensures.chosen shapes refl
    c.image_size-words.ensures in
    let small : image_size vs p ≤ most_window = omega (arith, counted, c.if-words-from.false, c.from.ensures) in
    let chosen : c.moved-frame.result.chosen.items ≡ vs = c.moved-frame.ensures.chosen ∙ c.new-anywhere.ensures.chosen in
    let end : c.moved-frame.result.end ≡ window_end vs p c.args.base = omega (arith, counted, small, c.moved-frame.ensures.end, c.requires.base) in
    end ∙ ap (λ (xs : List ℕ). window_end xs p c.args.base) (sym chosen)

pub returns : goal.returns
returns g c =
    let s : SourceOf = source_of c.args.accepted.now in
    let p : Proc = seen_proc c.args.main.now in
    let vs : List ℕ = c.args.chosen.items in
    let shapes : c.new-anywhere.result.shapes.items ≡ shapes_of p = c.new-anywhere.ensures.shapes ∙ c.in_ok-shapes.ensures in
    let counted : c.image_size-words.result ≡ limited (image_size vs p) =
    image_words c.new-anywhere.result c.args.main.now vs p c.image_size-words.result c.new-anywhere.ensures.chosen shapes refl
    c.image_size-words.ensures in
    let small : image_size vs p ≤ most_window = omega (arith, counted, c.if-words-from.false, c.from.ensures) in
    let chosen : c.moved-frame.result.chosen.items ≡ vs = c.moved-frame.ensures.chosen ∙ c.new-anywhere.ensures.chosen in
    let end : c.moved-frame.result.end ≡ window_end vs p c.args.base = omega (arith, counted, small, c.moved-frame.ensures.end, c.requires.base) in
    let made : c.in_ok-placed.field-0 ≡ whole_image vs s p c.args.base (window_end vs p c.args.base) =
    c.in_ok-placed.ensures ∙ ap (λ (xs : List ℕ). whole_image xs s p c.args.base c.moved-frame.result.end) chosen
    ∙ ap (λ (e : ℕ). whole_image vs s p c.args.base e) end in
    ap (λ (image : ImageOf). Some image) made ∙ sym (image_given vs s p c.args.base small)
