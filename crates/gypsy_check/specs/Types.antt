-- Kinds and types, the values that suit a type, and the words that variables take.
use Rattle.std.specs.Prelude.{ℕ, ◌+◌, ℤ, pos, negsuc, List, [], ◌∷◌, Option, Some, None, is_none, Bool, true, false, ◌&&◌, nat_lt, nat_le}
use Rattle.std.specs.Prelude.{if◌then◌else◌}
use Rattle.stack_text.specs.{Values.{same_kind}, SharedLimits.{most_array}, declared.shape.Kind.{Kind}}
use Rattle.stack_text.specs.declared.shape.Kind.TheVariants.{Boolean}
use Rattle.gypsy_syntax.specs.{declared.literal.TypeText.{TypeText}, Effects.{same_int}, Resolved.{literal_kind}, Sources.{LiteralOf}}
use Rattle.gypsy_syntax.specs.Sources.{LiteralsOf, array, no_items, item}

abbrev pub same_length : Option ℤ → Option ℤ → Bool
same_length None None = true
same_length (Some m) (Some n) = same_int m n
same_length _ _ = false

-- the same type, wherever it stands
abbrev pub same_type : TypeText → TypeText → Bool
same_type t u = same_kind t.kind u.kind && same_length t.length u.length

-- a simple Boolean
abbrev pub is_boolean : TypeText → Bool
is_boolean t = same_kind t.kind Boolean && is_none t.length

-- simple, or an array of 1 to 4,096 items
abbrev pub has_length : Option ℤ → Bool
has_length None = true
has_length (Some (pos n)) = nat_lt 0 n && nat_le n most_array
has_length (Some (negsuc n)) = false

abbrev pub is_of_kind : Kind → Option Kind → Bool
is_of_kind kind None = false
is_of_kind kind (Some other) = same_kind other kind

-- each item of a list is a literal of the kind
abbrev pub are_of_kind : Kind → LiteralsOf → Bool
are_of_kind kind no_items = true
are_of_kind kind (item l ls) = is_of_kind kind (literal_kind l) && are_of_kind kind ls

abbrev pub item_number : LiteralsOf → ℕ
item_number no_items = 0
item_number (item l ls) = 1 + item_number ls

-- a simple type has a literal of its kind, and an array a list of its length and of such literals
abbrev pub suits : Kind → Option ℤ → LiteralOf → Bool
suits kind None l = is_of_kind kind (literal_kind l)
suits kind (Some n) (array place ls) = same_int n (pos (item_number ls)) && are_of_kind kind ls
suits kind (Some n) l = false

-- the words of a variable whose type has a length in range, and none of any other
abbrev pub words_of_length : Option ℤ → ℕ
words_of_length None = 1
words_of_length (Some (pos n)) = if nat_lt 0 n && nat_le n most_array then n else 0
words_of_length (Some (negsuc n)) = 0

abbrev pub words_of_types : List TypeText → ℕ
words_of_types [] = 0
words_of_types (t ∷ ts) = words_of_length t.length + words_of_types ts
