-- Steps of predefined calls, as the code has them.
use Rattle.std.specs.Prelude.{◌≡◌, ℕ, List, ◌∷◌, map, slice_set}
use Rattle.stack_text.specs.Values.{ValueOf}
use Rattle.gypsy_syntax.specs.Programs.{Program, Apply}
use Rattle.gypsy_space.specs.{declared.program.Application.{Application}, Nodes.{seen_arg}, Costs.{Tally, pay}, Needs.{StackSizes}}
use Rattle.gypsy_semantics.specs.Machine.{Item, Do, Frame, At, Next, gypsy_step}
use Rattle.gypsy_meaning.specs.{Views.Work.{caught_spend}, Internal.Turns.{IsPlain, GoesOn}, declared.turn.Advance.{Advance}}
use Rattle.gypsy_meaning.specs.{declared.applying.Applied.{Applied}, declared.applying.Applied.TheVariants.{Writes, Fails}}

abbrev pub call_item : Application → Item
call_item call = Do (Apply call.place call.which (map seen_arg call.args.items))

-- from this work, over these variables, a step writes a variable and goes on so, to other work
abbrev pub WritesOn : List ValueOf → List Item → List Item → ℕ → ValueOf → Advance → Type 0
WritesOn x w v i value a =
    IsPlain a.event ×
    ((q : Program) (sizes : StackSizes) (p : ℕ) (fs : List Frame) (t : Tally) →
    gypsy_step q sizes (At p x w fs t) ≡
    Next (At p (slice_set x i value) v fs (caught_spend a.caught (pay a.event t))))

abbrev pub IsApplied : List ValueOf → Application → List Item → List Item → Applied → Type 0
IsApplied x call w v (Writes i value a) = WritesOn x (call_item call ∷ w) v i value a
IsApplied x call w v (Fails a) = GoesOn x (call_item call ∷ w) v a
