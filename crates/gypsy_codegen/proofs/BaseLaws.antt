-- What is known of a system and its names, whichever the program.
use Rattle.std.{proofs.Common.{◌≡◌, ℕ, List, [], ◌∷◌, ◌++◌, length, get_or, Some, refl, ap, ◌∙◌}, specs.Prelude.IsTrue}
use Rattle.stack_text.{specs.Names.is_name, specs.Grammar.Printed.unplaced}
use Rattle.piton_syntax.specs.Systems.{ProgramOf, SystemOf}
use Rattle.piton_check.specs.Declarations.{local_names, first_of}
use Rattle.gypsy_syntax.specs.ProgramFits.{Each}
use Rattle.gypsy_codegen.{specs.Written.Names, proofs.InstructionLaws.{Base, World}, proofs.DeclareLaws.{declarations, Differ, found_at}}
use Rattle.gypsy_codegen.proofs.SourceLaws.{named_at}

pub world_of : (s : SystemOf) (t : ProgramOf) (n : Names) (programs : ℕ) → Base s n programs → local_names t ≡ declarations n.locals → Differ n.locals →
    Each (λ name. IsTrue (is_name name)) n.locals → World s t n (length n.locals) programs
world_of s t n programs base e d h = record {
  base = base;
  local = λ b lt. ap (λ ds. first_of ds (get_or n.locals b [])) e ∙ found_at n.locals b d lt;
  local_name = λ b lt. named_at n.locals b h lt;
}

pub declared_both : (a b : List (List ℕ)) → declarations (a ++ b) ≡ declarations a ++ declarations b
declared_both [] b = refl
declared_both (x ∷ a) b = ap (λ z. Some (unplaced x) ∷ z) (declared_both a b)
