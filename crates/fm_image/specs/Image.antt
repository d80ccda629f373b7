-- Images as contracts see them.
use Rattle.std.specs.Prelude.{ℕ, List, Option}
use Rattle.fm_words.specs.declared.condition.Flags.{Flags}
use Rattle.fm_image.specs.{declared.procedure.Mark.{Mark}, declared.slot.Slot.{Slot}, Procedure.{ProcedureOf}}

-- what clauses see of an `Image`
pub record ImageOf : Type 0 where
  pub version : ℕ
  pub base : ℕ
  pub size : ℕ
  pub final_pc : ℕ
  pub registers : List ℕ
  pub flags : Flags
  pub condition_address : Option ℕ
  pub conditions : List (List ℕ)
  pub slots : List Slot
  pub words : List ℕ
  pub procedures : List ProcedureOf
  pub marks : List Mark
