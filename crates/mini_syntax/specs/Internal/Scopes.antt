-- The table of the declared variables.
use Rattle.std.specs.Prelude.{◌≡◌, ℕ, List}
use Rattle.name_tables.specs.Entries.{Entries, look_up}
use Rattle.mini_syntax.specs.{declared.program.Declared.{Declared}, declared.scope.Scope.{Scope}, declared.scope.Variable.{Variable}}
use Rattle.mini_syntax.specs.Breaches.{variable_named}

-- the table has the first declaration of each name
abbrev pub Knows : Entries Variable → List Declared → Type 0
Knows table ds = (name : List ℕ) → look_up table name ≡ variable_named ds name

abbrev pub IsScope : Scope → Type 0
IsScope scope = Knows scope.variables scope.declared.items
