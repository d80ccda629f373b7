use Rattle.std.proofs.Common.{◌≡◌, ◌+◌, ◌%◌, ◌^◌, ◌∙◌, rules}
use Rattle.display_maps.specs.Reading.{word_in}
use Rattle.level_debuggers.proofs.WordLaws.{next_word, no_words}
use Rattle.level_debuggers.proofs.fm_level.FmLevel.words.Goals as goal

pub loop-place-init : goal.loop-place-init
loop-place-init g c = c.new-text.ensures.items ∙ no_words c.args.self.now.state c.args.address

pub loop-place-preserved : goal.loop-place-preserved
loop-place-preserved g c =
    let word : c.peek.result ≡ word_in c.args.self.now.state ((c.args.address + c.loop-place.place) % 2 ^ 32) = search rules in
    next_word c.args.self.now.state c.args.address c.loop-place.place c.peek.result c.loop-place.text.items c.push_word.new.text.items
    c.loop-place.invariant word c.in_ok-push_word.ensures
