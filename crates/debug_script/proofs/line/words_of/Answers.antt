use Rattle.debug_script.proofs.WordLaws.{smaller, next_word, all_words}
use Rattle.debug_script.proofs.line.words_of.Goals as goal

pub loop-left-smaller : goal.loop-left-smaller
loop-left-smaller g c = smaller c.loop-left.left c.first_word.result.1 c.in-Some.line c.in-Some.is c.first_word.ensures.shorter

pub loop-left-preserved : goal.loop-left-preserved
loop-left-preserved g c =
    next_word c.loop-left.words.items c.push.new.items.items c.loop-left.left c.first_word.result.1 c.in-Some.line c.first_word.result.0 _
    c.in-Some.is c.in_ok-push.ensures.items c.first_word.ensures.words c.loop-left.invariant

pub returns : goal.returns
returns g c = all_words c.loop-left.words.items c.loop-left.left _ c.in_default.is c.loop-left.invariant
