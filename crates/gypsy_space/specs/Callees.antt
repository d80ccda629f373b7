-- The table of a source's procedures.
use Rattle.std.specs.Prelude.{◌≡◌, ℕ, List, map, Option}
use Rattle.stack_text.specs.Names.{place_among}
use Rattle.name_tables.specs.Entries.{Entries, look_up}
use Rattle.gypsy_syntax.specs.{declared.proc.Proc.{Proc}, Resolved.{procedure_names}, Views.SourceView.{source_of}}
use Rattle.gypsy_space.specs.declared.callees.Callees.{Callees}

-- the names of procedures, in order
abbrev pub names_of : List Proc → List (List ℕ)
names_of procs = map (λ p. p.name.name) procs

-- the table has the first position of each of these names, and no other name
abbrev pub KnowsPositions : Entries ℕ → List (List ℕ) → Type 0
KnowsPositions table names = (name : List ℕ) → look_up table name ≡ place_among name names

abbrev pub KnowsProcedures : Callees → Type 0
KnowsProcedures callees = KnowsPositions callees.positions (procedure_names (source_of callees.source.now))
