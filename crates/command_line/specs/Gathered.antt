-- The texts that a command reads, where all files are known and no device fails.
use Rattle.std.specs.Prelude.{◌≡◌, ◌≤◌, ℕ, List, [], ◌∷◌, length, map, All, Some, Result, Ok, Err, if◌then◌else◌}
use Rattle.stack_text.specs.Results.{◌>>=◌}
use Rattle.stack_shelf.specs.{Files.{Files, file_at}, Shelf.{Refusal, Missing, TooLong, fetched}}
use Rattle.command_line.specs.{declared.early_end.EarlyEnd.{EarlyEnd}, declared.role.Role.{Role}, Roles.{limit_of, is_role}}
use Rattle.command_line.specs.declared.early_end.EarlyEnd.TheVariants as end

abbrev pub Texts : Type 0
Texts = List (Role × List ℕ)

-- the first text of a role
abbrev pub text_of : Role → Texts → List ℕ
text_of role [] = []
text_of role (text ∷ texts) = if is_role text.0 role then text.1 else text_of role texts

-- all texts of a role, in order
abbrev pub texts_of : Role → Texts → List (List ℕ)
texts_of role [] = []
texts_of role (text ∷ texts) = if is_role text.0 role then text.1 ∷ texts_of role texts else texts_of role texts

-- the texts are those of the files of these names, one for each, and within the limit of the role
abbrev pub AreRead : Files → Role → List (List ℕ) → List (List ℕ) → Type 0
AreRead files role [] [] = Unit {0}
AreRead files role (name ∷ names) (text ∷ texts) =
    (file_at files name ≡ Some text) × (length text ≤ limit_of role) × AreRead files role names texts
AreRead files role names texts = ⊥

-- the roles of files, or of their texts
abbrev pub roles_of : List (Role × List ℕ) → List Role
roles_of files = map (λ (file : Role × List ℕ). file.0) files

-- each is within the limit of its role
abbrev pub AreShort : Texts → Type 0
AreShort texts = All (λ (text : Role × List ℕ). length text.1 ≤ limit_of text.0) texts

-- a file that can't be fetched ends the command
abbrev pub text_or_end : Role × List ℕ → Result (List ℕ) Refusal → Result (List ℕ) EarlyEnd
text_or_end input (Ok text) = Ok text
text_or_end input (Err Missing) = Err (end.Missing input.1)
text_or_end input (Err TooLong) = Err (end.TooLong (limit_of input.0))

-- the texts of the files, or the end at the first that is missing or too long
abbrev pub gathered : Files → List (Role × List ℕ) → Result Texts EarlyEnd
gathered files [] = Ok []
gathered files (input ∷ inputs) = do
  text ← text_or_end input (fetched files input.1 (limit_of input.0))
  texts ← gathered files inputs
  Ok ((input.0, text) ∷ texts)
