use Rattle.space_cert.{proofs.AcceptLaws.covered_is, proofs.CertifiedLaws.certified_is}
use Rattle.space_cert.proofs.laws.computed_as_defined.Goals as goal

pub returns-clause-certified : goal.returns-clause-certified
returns-clause-certified c = certified_is

pub returns-clause-covered : goal.returns-clause-covered
returns-clause-covered c = λ q bs sizes fits. covered_is q fits bs sizes
