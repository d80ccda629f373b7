use Rattle.fm_asm.{proofs.AssemblyLaws.spelled_is_assembled, proofs.FileLaws.assembled_fits, proofs.FormLaws.form_least}
use Rattle.fm_asm.proofs.RelatedLaws.{assembled_is_spelled, one_image, fault_or_image}
use Rattle.fm_asm.proofs.laws.assembled_as_spelled.Goals as goal

pub returns-clause-related : goal.returns-clause-related
returns-clause-related c = λ text image. (assembled_is_spelled text image, spelled_is_assembled text image)

pub returns-clause-one : goal.returns-clause-one
returns-clause-one c = one_image

pub returns-clause-limits : goal.returns-clause-limits
returns-clause-limits c = assembled_fits

pub returns-clause-fault : goal.returns-clause-fault
returns-clause-fault c = fault_or_image

pub returns-clause-form : goal.returns-clause-form
returns-clause-form c = form_least
