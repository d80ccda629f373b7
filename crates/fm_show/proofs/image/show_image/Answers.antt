use Rattle.fm_image.proofs.LimitLaws.{words_below}
use Rattle.fm_show.proofs.image.show_image.Goals as goal

pub push_words-requires : goal.push_words-requires
push_words-requires g c = rw c.deref-4.ensures.value (words_below _ c.image.invariant)
