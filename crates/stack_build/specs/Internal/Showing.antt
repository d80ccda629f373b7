-- Internal: what keeps the image of a system within the limits of images.
use Rattle.std.specs.{Prelude.{◌≡◌, ◌≤◌, ℕ, List, length, map, true}, List.{list_all, IsDistinct}, Str.{bytes_eq}}
use Rattle.fm_image.specs.Limits.{most_marked_conditions}
use Rattle.stack_text.specs.{SharedLimits.{most_array, most_declared}, Names.{is_name}, declared.shape.Shape.{Shape}}
use Rattle.piton_check.specs.Instruction.{SystemView}
use Rattle.piton_semantics.specs.Placed.{areas_size}
use Rattle.gypsy_syntax.specs.{declared.literal.Decl.{Decl}, ProgramFits.{Each}, Programs.{words_of}, Resolved.{shape_of}}

-- arrays of at most 4,096 items
abbrev pub HaveShortArrays : List Decl → Type 0
HaveShortArrays ds = Each (λ (d : Decl). (shape_of d.shape).length ≤ most_array) ds

-- the shapes of the variables
abbrev pub shapes_in : List Decl → List Shape
shapes_in ds = map (λ (d : Decl). shape_of d.shape) ds

-- at most 200 formals and 201 conditions of different names, and the stack and the first area of the system have their words
pub record IsShowable (system : SystemView) (ds : List Decl) (conditions : List (List ℕ)) : Type 0 where
  pub formals_named : list_all is_name (map (λ (d : Decl). d.name.name) ds) ≡ true
  pub formals_differ : IsDistinct bytes_eq (map (λ (d : Decl). d.name.name) ds)
  pub formals_few : length ds ≤ most_declared
  pub formals_short : HaveShortArrays ds
  pub formals_stand : words_of (shapes_in ds) ≤ length system.stack
  pub conditions_named : list_all is_name conditions ≡ true
  pub conditions_differ : IsDistinct bytes_eq conditions
  pub conditions_few : length conditions ≤ most_marked_conditions
  pub area : 1 ≤ areas_size system.areas
