use Rattle.fm_image.proofs.ImageLaws.{one_spelling, one_image, is_read_again}
use Rattle.fm_image.proofs.laws.one_spelling.Goals as goal

pub returns-clause-spelling : goal.returns-clause-spelling
returns-clause-spelling c = one_spelling

pub returns-clause-image : goal.returns-clause-image
returns-clause-image c = one_image

pub returns-clause-again : goal.returns-clause-again
returns-clause-again c = is_read_again
