-- What belongs together: an accepted source, its needs, and a run of it.
use Rattle.std.specs.Prelude.{◌≡◌, ℕ, List, map, take, length, Option, Some, None}
use Rattle.gypsy_syntax.specs.{Sources.{SourceOf}, Programs.{proc_at}, Resolved.{program_of}, ValuesFit.{VarsFit}}
use Rattle.gypsy_check.specs.Accepted.{IsAccepted}
use Rattle.gypsy_space.specs.{Events.{AreNeeds, AreSmall}, Nodes.{held_names, seen_program}, declared.need.Need.{Need}}
use Rattle.gypsy_meaning.specs.{Views.Held.{IsHeld}, Views.Named.{proc_names, seen_names, unnamed, variables_of}, Views.Running.{seen}}
use Rattle.gypsy_meaning.specs.{Views.Running.{sizes_of}, declared.running.Ending.{Ending}, declared.running.Meaning.{Meaning}}
use Rattle.gypsy_semantics.specs.{Room.{Suffices}, Views.RunView.{StageFits, after, opening}}

-- the code's own: as long as the run goes on, and once it ended
abbrev pub IsKept : Meaning → Option Ending → Type 0
IsKept m None = IsHeld m
IsKept m (Some e) =
    held_names m.variables.items ≡
    take (length (proc_at (seen_program m.program) m.program.main).formals) (variables_of m.names.items m.program.main)

-- the source is accepted, the needs are its needs, and the run is one of its program: from values that fit main's formals and
-- sizes that suffice, after some number of steps. The names are the source's, too.
pub record BelongsTo (s : SourceOf) (needs : List Need) (m : Meaning) : Type 0 where
  pub accepted : IsAccepted s
  pub needs_are : AreNeeds (program_of s) needs
  pub needs_small : AreSmall needs
  pub values_fit : VarsFit (proc_at (program_of s) (program_of s).main).formals m.values.items
  pub sizes_suffice : Suffices (program_of s) (sizes_of m)
  pub number : ℕ
  pub run : seen m ≡ after number (opening (program_of s) (sizes_of m) m.values.items)
  pub names : map seen_names m.names.items ≡ map proc_names s.procs
  pub unnamed_are : m.unnamed ≡ unnamed
  pub kept : IsKept m m.ending

-- what belongs to a source is a run of its program, and fits it
pub record IsRunOf (s : SourceOf) (m : Meaning) : Type 0 where
  pub program : (seen m).program ≡ program_of s
  pub fits : StageFits (seen m).program (seen m).stage
