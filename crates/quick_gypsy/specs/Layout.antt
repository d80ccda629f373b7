-- Where the variables of a procedure stand, and how its quick code reaches them.
use Rattle.std.specs.Prelude.{◌≡◌, ℕ, ◌+◌, ◌-◌, ◌<◌, ◌≤◌, ◌^◌, List, length, take, get_or}
use Rattle.stack_text.specs.{declared.shape.Shape.{Shape}, declared.shape.Kind.TheVariants.{Integer}, Values.{item_count}}
use Rattle.gypsy_syntax.specs.Programs.{simple, words_of}
use Rattle.fm_code.specs.Execution.{Parts}
use Rattle.quick_code.specs.{Access.{Access}, PieceRows.{LeadsTo}}

-- the end of the temporary stack, the variables' shapes, and how the first word of each is reached
pub record Layout : Type 0 where
  pub end : ℕ
  pub shapes : List Shape
  pub access : ℕ → Access

-- the index of the first word of a variable, counted from the bottom of the temporary stack
abbrev pub first_of : Layout → ℕ → ℕ
first_of L b = words_of (take b L.shapes)

-- how many items a variable has
abbrev pub count_of : Layout → ℕ → ℕ
count_of L b = item_count (get_or L.shapes b (simple Integer))

-- the address of a variable's last item, which is its lowest
abbrev pub last_address : Layout → ℕ → ℕ
last_address L b = L.end - 1 - (first_of L b + (count_of L b - 1))

-- in these parts, with these registers, each variable is reached
pub record IsLayout (P : Parts) (table : ℕ → ℕ) (L : Layout) : Type 0 where
  pub end_is : L.end ≡ P.end
  pub fits : P.end < 2 ^ 32
  pub room : words_of L.shapes ≤ P.end
  pub reaches : (b : ℕ) → b < length L.shapes → LeadsTo P table (L.access b) (first_of L b)
