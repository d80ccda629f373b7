-- Values: a shape, and the items of it.
use Rattle.std.specs.Prelude.{ℕ, ℤ, pos, negsuc, List, Bool, true, false, ◌==◌, ◌&&◌, ◌||◌, nat_le, length, if◌then◌else◌, codes}
use Rattle.std.specs.List.{list_all}
use Rattle.stack_text.specs.{declared.shape.Kind.{Kind}, declared.shape.Kind.TheVariants.{Integer, Boolean, Character}}
use Rattle.stack_text.specs.declared.shape.Shape.{Shape}

-- any integer of 32 bits; 0 or 1; or 0 to 127
abbrev pub is_item : Kind → ℤ → Bool
is_item Integer item = true
is_item Boolean (pos n) = n == 0 || n == 1
is_item Boolean (negsuc n) = false
is_item Character (pos n) = nat_le n 127
is_item Character (negsuc n) = false

-- the word of a kind, in sources and in listings
abbrev pub kind_name : Kind → List ℕ
kind_name Integer = codes "integer"
kind_name Boolean = codes "boolean"
kind_name Character = codes "character"

-- the two are one kind
abbrev pub same_kind : Kind → Kind → Bool
same_kind Integer Integer = true
same_kind Boolean Boolean = true
same_kind Character Character = true
same_kind _ _ = false

-- one for a simple type, and else the length of the array
abbrev pub item_count : Shape → ℕ
item_count shape = if shape.length == 0 then 1 else shape.length

-- the shape's number of items, each of its kind
abbrev pub is_value : Shape → List ℤ → Bool
is_value shape items = length items == item_count shape && list_all (λ item. is_item shape.kind item) items

-- what clauses see of a `Value`
pub record ValueOf : Type 0 where
  pub shape : Shape
  pub items : List ℤ
