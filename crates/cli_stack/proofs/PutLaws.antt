-- Files after one is put there.
use Rattle.std.proofs.Common.{◌≡◌, ◌≢◌, ℕ, List, [], ◌∷◌, Bool, true, false, Option, Some, None, bytes_eq, if◌then◌else◌, refl, sym, ap, ◌∙◌}
use Rattle.std.proofs.lemmas.Slice.Eq.{bytes_eq-Decides}
use Rattle.stack_shelf.specs.Files.{Files, file_at, put_file}

same_name : (name : List ℕ) → bytes_eq name name ≡ true
same_name name = (bytes_eq-Decides name name).1 refl

-- names that differ are told apart
apart : (name other : List ℕ) → name ≢ other → bytes_eq name other ≡ false
apart name other differ = by_test (bytes_eq name other) refl
  where
    by_test : (b : Bool) → bytes_eq name other ≡ b → b ≡ false
    by_test true e = absurd (differ ((bytes_eq-Decides name other).0 e))
    by_test false e = refl

abbrev if_named : Bool → List ℕ → Option (List ℕ) → Option (List ℕ)
if_named b bytes other = if b then Some bytes else other

-- what was put is there
pub put_there : (files : Files) (name bytes : List ℕ) → file_at (put_file files name bytes) name ≡ Some bytes
put_there [] name bytes = ap (λ b. if_named b bytes None) (same_name name)
put_there (f ∷ files) name bytes = by_test (bytes_eq f.0 name) refl (put_there files name bytes)
  where
    by_test : (b : Bool) → bytes_eq f.0 name ≡ b → file_at (put_file files name bytes) name ≡ Some bytes
        → file_at (if b then (f.0, bytes) ∷ files else f ∷ put_file files name bytes) name ≡ Some bytes
    by_test true e later = ap (λ b. if_named b bytes (file_at files name)) e
    by_test false e later = ap (λ b. if_named b f.1 (file_at (put_file files name bytes) name)) e ∙ later

-- and all other files are as they were
pub put_other : (files : Files) (name bytes other : List ℕ) → name ≢ other → file_at (put_file files name bytes) other ≡ file_at files other
put_other [] name bytes other differ = ap (λ b. if_named b bytes None) (apart name other differ)
put_other (f ∷ files) name bytes other differ = by_test (bytes_eq f.0 name) refl (put_other files name bytes other differ)
  where
    by_test : (b : Bool) → bytes_eq f.0 name ≡ b → file_at (put_file files name bytes) other ≡ file_at files other
        → file_at (if b then (f.0, bytes) ∷ files else f ∷ put_file files name bytes) other ≡ file_at (f ∷ files) other
    by_test true e later =
        let named : f.0 ≡ name = (bytes_eq-Decides f.0 name).0 e in
        let no : bytes_eq f.0 other ≡ false = apart f.0 other (λ h. differ (sym named ∙ h)) in
        ap (λ b. if_named b bytes (file_at files other)) no ∙ sym (ap (λ b. if_named b f.1 (file_at files other)) no)
    by_test false e later = ap (λ o. if_named (bytes_eq f.0 other) f.1 o) later
