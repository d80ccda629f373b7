-- A checked test is one of its family.
use Rattle.std.{proofs.Common.{◌≡◌, ℕ, zero, suc, ◌<◌, true, length, refl, subst, arith}, specs.Prelude.{Contains, slice_index_or}}
use Rattle.piton_syntax.{specs.declared.test_kind.TestFamily.TestFamily, specs.declared.test_kind.TestKind.TestKind, specs.Operations.tests_of}
use Rattle.piton_syntax.specs.declared.test_kind.TestFamily.TheVariants as family
use Rattle.piton_semantics.proofs.ReadyForms.{is_test}

tested : (f : TestFamily) (k : ℕ) (d : TestKind) → k < length (tests_of f) → is_test f (slice_index_or (tests_of f) k d) ≡ true
tested family.Nat zero d h = refl
tested family.Nat (suc zero) d h = refl
tested family.Nat (suc (suc k)) d h = absurd (omega arith)
tested family.Int zero d h = refl
tested family.Int (suc zero) d h = refl
tested family.Int (suc (suc zero)) d h = refl
tested family.Int (suc (suc (suc zero))) d h = refl
tested family.Int (suc (suc (suc (suc zero)))) d h = refl
tested family.Int (suc (suc (suc (suc (suc zero))))) d h = refl
tested family.Int (suc (suc (suc (suc (suc (suc k)))))) d h = absurd (omega arith)
tested family.Bool zero d h = refl
tested family.Bool (suc zero) d h = refl
tested family.Bool (suc (suc k)) d h = absurd (omega arith)
tested family.Bitv zero d h = refl
tested family.Bitv (suc zero) d h = refl
tested family.Bitv (suc (suc k)) d h = absurd (omega arith)

pub is_tested : (f : TestFamily) (kind : TestKind) → Contains (tests_of f) kind → is_test f kind ≡ true
is_tested f kind h = subst (λ k. is_test f k ≡ true) h.2 (tested f h.0 kind h.1)
