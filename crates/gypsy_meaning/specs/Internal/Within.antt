-- A step within a procedure, as the code makes it.
use Rattle.std.specs.Prelude.{◌≡◌, List, [], ◌∷◌, Option, Some, None}
use Rattle.stack_text.specs.Values.{ValueOf}
use Rattle.gypsy_space.specs.{declared.program.Application.{Application}, Nodes.{seen_cond}}
use Rattle.gypsy_meaning.specs.{Internal.PredefinedSteps.{call_item}, Internal.PredefinedEffects.{Suits}, Internal.Turns.{IsCall}}
use Rattle.gypsy_meaning.specs.{Views.Held.{Moves}, Views.Work.{work_of}, declared.running.Crossing.{Crossing}}
use Rattle.gypsy_meaning.specs.{declared.running.Crossing.TheVariants.{Calls, Ends, Leaves}, declared.running.Meaning.{Meaning}}
use Rattle.gypsy_semantics.specs.Machine.{Item}
use Rattle.gypsy_meaning.specs.Internal.Turns as turn

-- on top of this work
abbrev pub IsCrossing : List Item → Crossing → Type 0
IsCrossing w (Calls site) = IsCall site.value w
IsCrossing w Ends = w ≡ []
IsCrossing w (Leaves c) = turn.Leaves (seen_cond c) w

-- a step was made, or the state is as it was and it is told what leaves the procedure
abbrev pub IsWithin : Meaning → Meaning → Option Crossing → Type 0
IsWithin m n None = Moves m n
IsWithin m n (Some crossing) = (n ≡ m) × IsCrossing (work_of m.work) crossing

-- a predefined call on top stores what suits
abbrev pub WorkSuits : List ValueOf → List Item → Type 0
WorkSuits x w = (call : Application) (below : List Item) → w ≡ call_item call ∷ below → Suits call.which x call.args.items
