-- The files of a command, by their roles.
use Rattle.std.{proofs.Common.{◌≡◌, ℕ, zero, suc, List, [], ◌∷◌, Option, Some, None, ap, arith}, specs.Prelude.Contains}
use Rattle.command_line.{specs.declared.role.Role.Role, specs.declared.role.Role.TheVariants.Source}

-- the bytes of a file that is set
abbrev pub set_bytes : Option (List ℕ × List ℕ) → List ℕ
set_bytes None = []
set_bytes (Some output) = output.1

-- the role of a file that is written
abbrev pub written_role : Option (Role × List ℕ) → Role
written_role None = Source
written_role (Some file) = file.0

-- the one file that is read
pub only_file : (role : Role) (first name : List ℕ) → Contains {X = Role × List ℕ} ((role, first) ∷ []) (role, name) → first ≡ name
only_file role first name (zero, lt, is) = ap (λ (f : Role × List ℕ). f.1) is
only_file role first name (suc i, lt, is) = absurd (omega arith)

-- who reads one file, of another role, reads none of this role
pub only_role : (role other : Role) (first name : List ℕ) → (other ≡ role → ⊥) → Contains {X = Role × List ℕ} ((other, first) ∷ []) (role, name) → ⊥
only_role role other first name apart (zero, lt, is) = apart (ap (λ (f : Role × List ℕ). f.0) is)
only_role role other first name apart (suc i, lt, is) = omega arith

-- nor who reads two files
pub both_roles : (role other second : Role) (first next name : List ℕ) → (other ≡ role → ⊥) → (second ≡ role → ⊥)
    → Contains {X = Role × List ℕ} ((other, first) ∷ (second, next) ∷ []) (role, name) → ⊥
both_roles role other second first next name apart apart' (zero, lt, is) = apart (ap (λ (f : Role × List ℕ). f.0) is)
both_roles role other second first next name apart apart' (suc zero, lt, is) = apart' (ap (λ (f : Role × List ℕ). f.0) is)
both_roles role other second first next name apart apart' (suc (suc i), lt, is) = omega arith

-- nor who reads three
pub three_roles : (role other second third : Role) (first next last name : List ℕ) → (other ≡ role → ⊥) → (second ≡ role → ⊥) → (third ≡ role → ⊥)
    → Contains {X = Role × List ℕ} ((other, first) ∷ (second, next) ∷ (third, last) ∷ []) (role, name) → ⊥
three_roles role other second third first next last name apart apart' apart'' (zero, lt, is) = apart (ap (λ (f : Role × List ℕ). f.0) is)
three_roles role other second third first next last name apart apart' apart'' (suc zero, lt, is) = apart' (ap (λ (f : Role × List ℕ). f.0) is)
three_roles role other second third first next last name apart apart' apart'' (suc (suc zero), lt, is) = apart'' (ap (λ (f : Role × List ℕ). f.0) is)
three_roles role other second third first next last name apart apart' apart'' (suc (suc (suc i)), lt, is) = omega (arith, lt)
