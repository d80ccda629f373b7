-- Tables of names.
use Rattle.std.specs.{Prelude.{◌≡◌, ℕ, List, ◌++◌, map, find, Bool, Option, option_map}, Borrow.{Bor}, List.{list_any}, Str.{bytes_eq}}
use Rattle.stack_text.specs.{Names.{is_among}, declared.name.Named.{Named}}
use Rattle.name_tables.specs.Entries.{Entries, look_up}
use Rattle.gypsy_syntax.specs.{declared.literal.Decl.{Decl}, declared.literal.TypeText.{TypeText}, declared.proc.Proc.{Proc}}
use Rattle.gypsy_check.specs.declared.callees.Callees.{Callees}

-- a name of these
abbrev pub is_named : List ℕ → List Named → Bool
is_named name names = list_any (λ n. bytes_eq name n.name) names

-- the list has the names of these
abbrev pub KnowsNames : List (List ℕ) → List Named → Type 0
KnowsNames list names = (name : List ℕ) → is_among name list ≡ is_named name names

-- the procedure that the table has for a name
abbrev pub procedure_in : Entries (Bor Proc) → List ℕ → Option Proc
procedure_in table name = option_map (λ proc. proc.now) (look_up table name)

-- the table has the first procedure of each name
abbrev pub KnowsProcs : Entries (Bor Proc) → List Proc → Type 0
KnowsProcs table procs = (name : List ℕ) → procedure_in table name ≡ find (λ p. bytes_eq name p.name.name) procs

abbrev pub KnowsCallees : Callees → Type 0
KnowsCallees callees = KnowsProcs callees.procs callees.source.now.procs.items

-- the variables that a procedure declares, formals before locals
abbrev pub declared : Proc → List Decl
declared p = p.formals.items ++ map (λ l. l.decl) p.locals.items

-- the type of the first of a name
abbrev pub first_type : List Decl → List ℕ → Option TypeText
first_type decls name = option_map (λ d. d.shape) (find (λ d. bytes_eq name d.name.name) decls)

-- the table has the type of the first of each name
abbrev pub KnowsTypes : Entries TypeText → List Decl → Type 0
KnowsTypes table decls = (name : List ℕ) → look_up table name ≡ first_type decls name
