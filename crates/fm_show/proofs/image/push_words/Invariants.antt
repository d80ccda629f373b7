use Rattle.std.proofs.Common.{◌≡◌, ◌++◌, ◌+◌, drop}
use Rattle.fm_show.{specs.Listing.numbered_lines, specs.ImageListing.word_line}
use Rattle.fm_show.proofs.image.push_words.Given as goal

-- the lines so far and those of what is left are those of all
abbrev pub invariant-loop-place : goal.invariant-loop-place
invariant-loop-place g l =
    l.text.items ++ numbered_lines word_line (l.base + l.place) (drop l.place l.words) ≡ l.initial.text.items ++ numbered_lines word_line l.base l.words
