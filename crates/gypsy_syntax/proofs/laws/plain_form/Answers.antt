use Rattle.gypsy_syntax.{proofs.FitsLaws.keeps_fits, proofs.MadeLaws.fits_keeps, proofs.SizeLaws.text_over}
use Rattle.gypsy_syntax.proofs.laws.plain_form.Goals as goal

pub returns-clause-fits : goal.returns-clause-fits
returns-clause-fits c = keeps_fits

pub returns-clause-keeps : goal.returns-clause-keeps
returns-clause-keeps c = fits_keeps

pub returns-clause-counted : goal.returns-clause-counted
returns-clause-counted c = text_over
