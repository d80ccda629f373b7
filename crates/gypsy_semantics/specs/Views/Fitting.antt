-- Whether values and sizes suit the start of a run.
use Rattle.std.specs.{Prelude.{ℤ, List, [], ◌∷◌, length, Bool, true, false, ◌==◌, ◌&&◌, nat_le}, List.{list_all}}
use Rattle.stack_text.specs.{SharedLimits.{most_array}, declared.shape.Shape.{Shape}, Values.{ValueOf, item_count, same_kind}}
use Rattle.gypsy_syntax.specs.{Programs.{Program, proc_at}, Ranges.{is_in_range}, ValuesFit.{VarsFit}}
use Rattle.gypsy_space.specs.Needs.{StackSizes, main_need}
use Rattle.gypsy_semantics.specs.Room.{Suffices}

abbrev pub same_shape : Shape → Shape → Bool
same_shape a b = same_kind a.kind b.kind && a.length == b.length

abbrev pub are_as_many : Shape → List ℤ → Bool
are_as_many s items = nat_le s.length most_array && length items == item_count s

unfoldable pub is_value_of : Shape → ValueOf → Bool
is_value_of s v = same_shape v.shape s && are_as_many s v.items && list_all (is_in_range s.kind) v.items

abbrev pub are_values : List Shape → List ValueOf → Bool
are_values [] [] = true
are_values [] (v ∷ x) = false
are_values (s ∷ shapes) [] = false
are_values (s ∷ shapes) (v ∷ x) = is_value_of s v && are_values shapes x

abbrev pub suffice : StackSizes → StackSizes → Bool
suffice need sizes = nat_le need.temp sizes.temp && nat_le need.ctrl sizes.ctrl

abbrev pub can_start : Program → List ValueOf → StackSizes → Bool
can_start q values sizes = are_values (proc_at q q.main).formals values && suffice (main_need q) sizes

-- the values fit main's formals, and the sizes are at least main's own need
pub record CanStart (q : Program) (values : List ValueOf) (sizes : StackSizes) : Type 0 where
  pub values_fit : VarsFit (proc_at q q.main).formals values
  pub sizes_suffice : Suffices q sizes
