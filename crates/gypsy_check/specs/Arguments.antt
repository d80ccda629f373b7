-- The arguments of a predefined procedure, and the kind that they share.
use Rattle.std.specs.Prelude.{Bool, true, false, Option, Some, None, is_none, if◌then◌else◌}
use Rattle.stack_text.specs.{declared.shape.Kind.{Kind}, Values.{same_kind}}
use Rattle.gypsy_syntax.specs.{declared.literal.TypeText.{TypeText}, declared.slot.Form.{Form}, declared.slot.Form.TheVariants.{Simple}}
use Rattle.gypsy_syntax.specs.{declared.slot.Form.TheVariants.{Array, Literal}, Resolved.{literal_kind}, Sources.{LiteralOf, ArgOf}}
use Rattle.gypsy_syntax.specs.Sources.{variable, constant, ProcOf}
use Rattle.gypsy_check.specs.Declarations.{type_of}

-- the kind of an argument that has the form, and none of any other
abbrev pub kind_of_type : Form → Option TypeText → Option Kind
kind_of_type form None = None
kind_of_type Simple (Some t) = if is_none t.length then Some t.kind else None
kind_of_type Array (Some t) = if is_none t.length then None else Some t.kind
kind_of_type Literal (Some t) = None

abbrev pub kind_of_literal : Form → LiteralOf → Option Kind
kind_of_literal Literal l = literal_kind l
kind_of_literal _ l = None

abbrev pub kind_of : ProcOf → Form → ArgOf → Option Kind
kind_of p form (variable n) = kind_of_type form (type_of p n.name)
kind_of p form (constant l) = kind_of_literal form l

-- whether an argument of this kind is what the slot wants, where the kind that the arguments share may be settled
abbrev pub is_wanted : Option Kind → Option Kind → Option Kind → Bool
is_wanted settled slot None = false
is_wanted settled (Some wanted) (Some kind) = same_kind kind wanted
is_wanted (Some wanted) None (Some kind) = same_kind kind wanted
is_wanted None None (Some kind) = true

-- the kind that the arguments share: that of the first argument that has its form and may have any kind
abbrev pub settled_by : Option Kind → Option Kind → Option Kind → Option Kind
settled_by (Some kind) slot other = Some kind
settled_by None (Some wanted) other = None
settled_by None None kind = kind

abbrev pub is_undeclared : ProcOf → ArgOf → Bool
is_undeclared p (variable n) = is_none (type_of p n.name)
is_undeclared p (constant l) = false
