-- Runs as the code keeps them.
use Rattle.gypsy_syntax.specs.Views.SourceView.{source_of}
use Rattle.gypsy_meaning.specs.{Views.Running.{seen}, Views.Belongs.{BelongsTo}}
use Rattle.level_debuggers.specs.{declared.gypsy_level.GypsyLevel.{GypsyLevel}, declared.level.Level.{Level}, GypsyLevels.{GypsyLevelOf}}
use Rattle.level_debuggers.specs.Levels.{LevelOf, Gypsy, Piton, Fm}
use Rattle.level_debuggers.specs.declared.level.Level.TheVariants as level

-- what clauses see of a `GypsyLevel`
abbrev pub gypsy_of : GypsyLevel → GypsyLevelOf
gypsy_of level = record { source = source_of level.accepted; seen = seen level.meaning }

-- the needs are the source's, and the meaning is a run of it
abbrev pub Belongs : GypsyLevel → Type 0
Belongs level = BelongsTo (source_of level.accepted) level.needs.procedures.items level.meaning

-- what clauses see of a `Level`
abbrev pub level_seen : Level → LevelOf
level_seen (level.Gypsy run) = Gypsy (gypsy_of run)
level_seen (level.Piton run) = Piton run
level_seen (level.Fm run) = Fm run

-- its parts belong together
abbrev pub IsLevel : Level → Type 0
IsLevel (level.Gypsy run) = Belongs run
IsLevel (level.Piton run) = Unit {0}
IsLevel (level.Fm run) = Unit {0}
