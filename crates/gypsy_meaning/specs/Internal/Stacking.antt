-- The activations that wait, as the code makes them, the one that goes on first at the front.
use Rattle.std.specs.Prelude.{List, [], ◌∷◌}
use Rattle.stack_text.specs.Values.{ValueOf}
use Rattle.gypsy_space.specs.Nodes.{held_values}
use Rattle.gypsy_semantics.specs.Calls.{copied_out}
use Rattle.gypsy_meaning.specs.{Views.Stacks.{ActivationOf}, declared.running.Frame.{Frame}}

-- the values of the last of these, or of the active one
abbrev pub last_values : List ValueOf → List ActivationOf → List ValueOf
last_values active [] = active
last_values active (a ∷ all) = last_values a.values all

-- a frame, with what comes back from a callee with these values
abbrev pub activation_back : List ValueOf → Frame → ActivationOf
activation_back y f = record {
  procedure = f.procedure;
  values = copied_out f.call.value.actuals.items y (held_values f.variables.items);
}
