-- When values fit the shapes of variables.
use Rattle.std.specs.{Prelude.{◌≡◌, ◌≤◌, List, [], ◌∷◌, length, true}, List.{list_all}}
use Rattle.stack_text.specs.{SharedLimits.{most_array}, declared.shape.Shape.{Shape}, Values.{ValueOf, item_count}}
use Rattle.gypsy_syntax.specs.Ranges.{is_in_range}

-- a value has its shape's number of items, each in range
pub record ValueFits (v : ValueOf) : Type 0 where
  pub few : v.shape.length ≤ most_array
  pub number : length v.items ≡ item_count v.shape
  pub items : list_all (is_in_range v.shape.kind) v.items ≡ true

-- values of these shapes
abbrev pub VarsFit : List Shape → List ValueOf → Type 0
VarsFit [] [] = Unit {0}
VarsFit [] (v ∷ x) = ⊥
VarsFit (s ∷ shapes) [] = ⊥
VarsFit (s ∷ shapes) (v ∷ x) = (v.shape ≡ s) × ValueFits v × VarsFit shapes x
