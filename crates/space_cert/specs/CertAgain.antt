-- The least certificate of a source, written and read again.
use Rattle.std.specs.Prelude.{◌≡◌, ◌≤◌, ◌^◌, length, Ok}
use Rattle.gypsy_check.specs.Accepted.{IsAccepted}
use Rattle.gypsy_syntax.specs.{Resolved.{procedure_names, program_of}, Sources.{SourceOf}}
use Rattle.space_cert.specs.{CertText.{bounds_in, certificate_text}, Certified.{certified}, Covers.{Bounds}}

-- its text is short, and the bounds that this gives the procedures are the certificate's
pub record IsReadAgain (source : SourceOf) (bs : Bounds) : Type 0 where
  pub short : length (certificate_text (procedure_names source) bs) ≤ 2 ^ 17
  pub again : bounds_in (procedure_names source) (certificate_text (procedure_names source) bs) ≡ Ok bs

-- So it is of each accepted source that has a certificate.
abbrev pub CertificatesAreReadAgain : Type 0
CertificatesAreReadAgain =
    (source : SourceOf) (bs : Bounds) → IsAccepted source → certified (program_of source) ≡ Ok bs → IsReadAgain source bs
