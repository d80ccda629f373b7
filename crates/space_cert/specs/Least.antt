-- The least certificate.
use Rattle.std.specs.{Prelude.{◌≡◌, ℕ, ◌<◌, length, Some, None}, Option.{IsSome, IsSomeAnd}}
use Rattle.gypsy_syntax.specs.Programs.{Program}
use Rattle.gypsy_space.specs.Needs.{StackSizes}
use Rattle.space_cert.specs.{declared.certifying.CertFault.{CertFault}, declared.certifying.CertFault.TheVariants.{Recursive, Memory}}
use Rattle.space_cert.specs.{Covers.{Bounds, bound_at, IsAtMost, IsCertificate}, Reaches.{IsReached, IsRecursive}}

-- what main reaches has bounds, which are the least that any certificate has; any other procedure has none
pub record AreLeastBounds (q : Program) (bs : Bounds) : Type 0 where
  pub certificate : IsCertificate q bs
  pub reached : (p : ℕ) → IsReached q p → IsSome (bound_at bs p)
  pub others : (p : ℕ) → ¬ IsReached q p → bound_at bs p ≡ None
  pub least : (ds : Bounds) → IsCertificate q ds → (p : ℕ) (b : StackSizes) → bound_at bs p ≡ Some b →
      IsSomeAnd (bound_at ds p) (IsAtMost b)

-- the first recursive procedure that main reaches
pub record IsFirstRecursive (q : Program) (p : ℕ) : Type 0 where
  pub recursive : IsRecursive q p
  pub first : (r : ℕ) → r < p → ¬ IsRecursive q r

-- why there is no certificate, or that memory was refused
abbrev pub IsCertFaultUnless : Type 0 → Program → CertFault → Type 0
IsCertFaultUnless refused q (Recursive p) = IsFirstRecursive q p
IsCertFaultUnless refused q Memory = refused

-- the procedure that a fault tells is one of the program's
abbrev pub IsThere : Program → CertFault → Type 0
IsThere q (Recursive p) = p < length q.procs
IsThere q Memory = Unit {0}
