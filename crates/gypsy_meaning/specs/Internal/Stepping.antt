-- A step, as the code makes it.
use Rattle.std.specs.Prelude.{◌≡◌, ℕ, ◌+◌, List, length}
use Rattle.gypsy_syntax.specs.Programs.{proc_at}
use Rattle.gypsy_space.specs.{Events.{AreNeeds, AreSmall}, Nodes.{seen_program}, declared.need.Need.{Need}}
use Rattle.gypsy_meaning.specs.{Views.Held.{EndsRun, IsHeld, Moves}, Views.Named.{variables_of}, Views.Running.{state_of}}
use Rattle.gypsy_meaning.specs.declared.running.Meaning.{Meaning}
use Rattle.gypsy_semantics.specs.{Kept.{StateFits}, declared.answers.Moved.{Moved}}
use Rattle.gypsy_semantics.specs.declared.answers.Moved.TheVariants as moved

-- what a step of a run that isn't over wants
pub record IsReady (needs : List Need) (m : Meaning) : Type 0 where
  pub needs_are : AreNeeds (seen_program m.program) needs
  pub needs_small : AreSmall needs
  pub state_fits : StateFits (seen_program m.program) (state_of m)
  pub held : IsHeld m
  pub there : length m.names.items ≡ length m.program.procedures.items
  pub sized : (p : ℕ) → let proc = proc_at (seen_program m.program) p in
      length (variables_of m.names.items p) ≡ length proc.formals + length proc.locals

-- by its answer
abbrev pub Does : Meaning → Meaning → Moved → Type 0
Does m n moved.Moved = Moves m n
Does m n moved.Ended = EndsRun m n
