-- Tables of names, each with the position of the name's first declaration.
use Rattle.std.specs.Prelude.{◌≡◌, ℕ, ◌+◌, ◌≤◌, ◌^◌, List, [], length, slice_get, Option, Some, None, is_some}
use Rattle.piton_syntax.specs.{Systems.{ProgramOf, SystemOf}, Limits.{most_instructions}}
use Rattle.name_tables.specs.Entries.{Entries, look_up}
use Rattle.stack_text.specs.{declared.breach.Breach.{Breach}, Breaches.{when}}
use Rattle.piton_check.specs.Declarations.{Declaration, first_of, program_names, area_names, local_names, label_names}
use Rattle.piton_check.specs.{declared.names.Names.{Names}, declared.names.Scope.{Scope}}

-- a name for which a position is known
abbrev pub repeated : (List ℕ → Option ℕ) → ℕ → Declaration → List Breach
repeated known rule None = []
repeated known rule (Some n) = when (is_some (known n.name)) n.place rule

-- the table has the first position of each name
abbrev pub Knows : Entries ℕ → List Declaration → Type 0
Knows table declared = (name : List ℕ) → look_up table name ≡ first_of declared name

-- the tables are those of the system
pub record KnowsSystem (names : Names) : Type 0 where
  pub areas : Knows names.areas (area_names names.system.now)
  pub programs : Knows names.programs (program_names names.system.now)

-- the tables are those of the program and of its system
pub record KnowsProgram (scope : Scope) : Type 0 where
  pub names : KnowsSystem scope.names.now
  pub locals : Knows scope.locals (local_names scope.program.now)
  pub labels : Knows scope.labels (label_names scope.program.now)

-- counts of a program's locals and instructions that 32 bits hold
pub record IsSmall (p : ProgramOf) : Type 0 where
  pub locals : length p.formals + length p.temporaries ≤ 2 ^ 20
  pub instrs : length p.instrs ≤ most_instructions

abbrev pub AreSmall : List ProgramOf → Type 0
AreSmall programs = (i : ℕ) (p : ProgramOf) → slice_get programs i ≡ Some p → IsSmall p

-- counts of a system's parts that 32 bits hold
pub record IsSmallSystem (s : SystemOf) : Type 0 where
  pub areas : length s.areas ≤ 2 ^ 20
  pub count : length s.programs ≤ 2 ^ 20
  pub programs : AreSmall s.programs
