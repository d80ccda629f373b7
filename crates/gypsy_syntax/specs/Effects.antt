-- What calls of predefined procedures do: outcomes, and what makes them of values.
use Rattle.std.specs.{Prelude.{ℕ, ℤ, pos, negsuc, List, [], ◌∷◌, length, get_or, slice_set, Bool, nat_lt, if◌then◌else◌}, Ordering.{int_eq}}
use Rattle.stack_text.specs.{declared.shape.Kind.TheVariants.{Integer, Boolean}, Values.{ValueOf}}
use Rattle.gypsy_syntax.specs.{Programs.{simple}, Resolved.{truth_item}, Ranges.{is_in_range}}

-- the value that is written to the first argument; a fault; or an index that isn't below the length
pub data Effect : Type 0 where
  Normal : (v : ValueOf) → Effect
  Fault : Effect
  Beyond : Effect

abbrev pub same_int : ℤ → ℤ → Bool
same_int = int_eq

abbrev pub integer_value : ℤ → ValueOf
integer_value z = record { shape = simple Integer; items = z ∷ [] }

abbrev pub truth_value : Bool → ValueOf
truth_value b = record { shape = simple Boolean; items = truth_item b ∷ [] }

-- the item of a simple value
abbrev pub item_of_value : ValueOf → ℤ
item_of_value v = get_or v.items 0 (pos 0)

abbrev pub is_true_value : ValueOf → Bool
is_true_value v = same_int (item_of_value v) (pos 1)

-- what stands past the last value
abbrev pub no_value : ValueOf
no_value = integer_value (pos 0)

abbrev pub value_at : List ValueOf → ℕ → ValueOf
value_at vs i = get_or vs i no_value

-- a number, where 32 signed bits have it
abbrev pub number_effect : ℤ → Effect
number_effect z = if is_in_range Integer z then Normal (integer_value z) else Fault

-- the item at an index
abbrev pub indexed : ValueOf → ℤ → Effect
indexed a (negsuc n) = Fault
indexed a (pos i) =
    if nat_lt i (length a.items) then Normal record { shape = simple a.shape.kind; items = get_or a.items i (pos 0) ∷ [] } else Beyond

-- the array with another item at an index
abbrev pub stored : ValueOf → ℤ → ℤ → Effect
stored a (negsuc n) z = Fault
stored a (pos i) z = if nat_lt i (length a.items) then Normal record { shape = a.shape; items = slice_set a.items i z } else Beyond

abbrev pub are_same : ValueOf → ValueOf → Bool
are_same v w = same_int (item_of_value v) (item_of_value w)
