-- Names with their values.
use Rattle.std.specs.{Prelude.{ℕ, List, [], ◌∷◌, ◌++◌, map, Option, is_some, if◌then◌else◌}, Map.{lookup}, Str.{bytes_eq}}
use Rattle.name_tables.specs.declared.name_key.NameKey.{NameKey}

abbrev pub Entries : Type 0 → Type 0
Entries V = List (List ℕ × V)

-- the value of a name's first entry
abbrev pub look_up : {V : Type 0} → Entries V → List ℕ → Option V
look_up entries name = lookup (bytes_eq name) entries

-- these entries, and one that goes last unless its name has a value
abbrev pub with_entry : {V : Type 0} → Entries V → List ℕ → V → Entries V
with_entry entries name value = if is_some (look_up entries name) then entries else entries ++ (name, value) ∷ []

-- the entries of borrowed names
abbrev pub entries_now : {V : Type 0} → List (NameKey × V) → Entries V
entries_now entries = map (λ e. (e.0.bytes.now, e.1)) entries
