-- Effects of predefined calls, as the code has them.
use Rattle.std.specs.Prelude.{ℕ, List, map, get_or, IsTrue}
use Rattle.stack_text.specs.Values.{ValueOf, is_item}
use Rattle.gypsy_syntax.specs.{Programs.{Lit}, Predefined.{effect_by}, Effects.{Effect, no_value, item_of_value}}
use Rattle.gypsy_syntax.specs.declared.predef.Predef.{Predef}
use Rattle.gypsy_syntax.specs.declared.predef.Predef.TheVariants as row
use Rattle.gypsy_syntax.specs.Effects as effect
use Rattle.gypsy_space.specs.{declared.program.Argument.{Argument}, Nodes.{seen_arg}}
use Rattle.gypsy_semantics.specs.Calls.{value_of}
use Rattle.gypsy_meaning.specs.{declared.effects.OwnedEffect.{OwnedEffect}, declared.effects.OwnedEffect.TheVariants.{Normal, Fault}}
use Rattle.gypsy_meaning.specs.declared.effects.OwnedEffect.TheVariants.{Beyond}

abbrev pub effect_of : OwnedEffect → Effect
effect_of (Normal v) = effect.Normal v
effect_of Fault = effect.Fault
effect_of Beyond = effect.Beyond

-- the value of an argument
abbrev pub argument_at : List ValueOf → List Argument → ℕ → ValueOf
argument_at x args i = value_of x (get_or (map seen_arg args) i (Lit no_value))

-- the effect on the values of these arguments
unfoldable pub applied_effect : Predef → List ValueOf → List Argument → Effect
unfolding effect_by
applied_effect r x args = effect_by r (argument_at x args)

-- what is stored in an array is an item of its kind
unfoldable pub Suits : Predef → List ValueOf → List Argument → Type 0
Suits row.MgArrayElementAssignment x args =
    IsTrue (is_item (argument_at x args 0).shape.kind (item_of_value (argument_at x args 2)))
Suits _ x args = Unit {0}
