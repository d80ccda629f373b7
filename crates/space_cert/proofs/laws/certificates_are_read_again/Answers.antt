use Rattle.space_cert.proofs.CertAgainLaws.{certificates_again}
use Rattle.space_cert.proofs.laws.certificates_are_read_again.Goals as goal

pub returns : goal.returns
returns c = certificates_again
