-- The names of procedures.
use Rattle.std.{proofs.Common.{◌≡◌, ◌≢◌, ℕ, ◌<◌, ◌^◌, bytes_eq, true, false, refl}, specs.Prelude.IsTrue, proofs.lemmas.Slice.Eq.bytes_eq-Decides}
use Rattle.stack_text.{specs.Names.is_name, proofs.NumberedNameLaws.{numbered_named, numbered_differs}}
use Rattle.gypsy_gen.specs.Parts.{procedure_name}

pub procedure_named : (index : ℕ) → index < 2 ^ 32 → IsTrue (is_name (procedure_name index))
procedure_named index lt = numbered_named 112 index refl (λ bytes. refl) lt

pub name_itself : (i : ℕ) → bytes_eq (procedure_name i) (procedure_name i) ≡ true
name_itself i = (bytes_eq-Decides (procedure_name i) (procedure_name i)).1 refl

pub name_differs : (i j : ℕ) → i < 2 ^ 32 → j < 2 ^ 32 → i ≢ j → bytes_eq (procedure_name i) (procedure_name j) ≡ false
name_differs i j low lower differs = numbered_differs 112 i j low lower differs
