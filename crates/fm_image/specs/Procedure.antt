-- Procedures as contracts see them.
use Rattle.std.specs.Prelude.{ℕ, List}
use Rattle.fm_image.specs.declared.procedure.VarInfo.{VarInfo}

-- what clauses see of a `ProcInfo`
pub record ProcedureOf : Type 0 where
  pub name : List ℕ
  pub conditions : List (List ℕ)
  pub variables : List VarInfo
