use Rattle.std.proofs.Common.{◌++◌, ◌+◌, refl, arith}
use Rattle.fm_show.{specs.Listing.numbered_lines, specs.ImageListing.word_line, proofs.LineLaws.{lines_next, lines_end}}
use Rattle.fm_show.proofs.image.push_words.Goals as goal

pub loop-place-preserved : goal.loop-place-preserved
loop-place-preserved g c =
    lines_next word_line c.args.words.now c.loop-place.place (c.args.base + c.loop-place.place) (c.args.base + (c.loop-place.place + 1))
    _ c.loop-place.text.items c.push_word.new.text.items (c.args.text.now.items ++ numbered_lines word_line c.args.base c.args.words.now)
    c.loop-place-test.true (omega arith) refl c.in_ok-push_word.ensures c.loop-place.invariant

pub returns : goal.returns
returns g c =
    lines_end word_line c.args.words.now c.loop-place.place (c.args.base + c.loop-place.place) c.loop-place.text.items
    (c.args.text.now.items ++ numbered_lines word_line c.args.base c.args.words.now) c.loop-place-test.false c.loop-place.invariant
