-- Files that were fetched.
use Rattle.std.{proofs.Common.{◌≡◌, ◌≤◌, ℕ, List, Bool, true, false, Option, Some, None, Ok, Err, length, refl, ap, subst}, specs.Prelude.nat_lt}
use Rattle.std.{specs.Prelude.if◌then◌else◌, proofs.lemmas.Bool.ltb-false}
use Rattle.stack_shelf.{specs.Files.{Files, file_at}, specs.Shelf.{TooLong, fetched, within}}
use Rattle.command_line.{specs.declared.role.Role.Role, specs.Roles.limit_of, specs.Gathered.text_or_end}

-- a file that was fetched is there, and within its limit
pub was_short : (files : Files) (input : Role × List ℕ) (text : List ℕ) → text_or_end input (fetched files input.1 (limit_of input.0)) ≡ Ok text
    → (file_at files input.1 ≡ Some text) × (length text ≤ limit_of input.0)
was_short files input text h = by_file (file_at files input.1) h
  where
    by_length : (bytes : List ℕ) (b : Bool) → nat_lt (limit_of input.0) (length bytes) ≡ b
        → text_or_end input (if b then Err TooLong else Ok bytes) ≡ Ok text → (Some bytes ≡ Some text) × (length text ≤ limit_of input.0)
    by_length bytes true long h = absurd cc
    by_length bytes false short h =
        let same : bytes ≡ text = cc in
        (ap (λ (b : List ℕ). Some b) same, subst (λ (b : List ℕ). length b ≤ limit_of input.0) same (ltb-false (limit_of input.0) (length bytes) short))

    by_file : (o : Option (List ℕ)) → text_or_end input (within (limit_of input.0) o) ≡ Ok text → (o ≡ Some text) × (length text ≤ limit_of input.0)
    by_file None h = absurd cc
    by_file (Some bytes) h = by_length bytes (nat_lt (limit_of input.0) (length bytes)) refl h
