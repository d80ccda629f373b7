-- The activations that wait, as a debugger shows them.
use Rattle.std.specs.Prelude.{ℕ, List, [], map}
use Rattle.stack_text.specs.Values.{ValueOf}
use Rattle.gypsy_space.specs.Nodes.{held_values}
use Rattle.gypsy_semantics.specs.{Machine.{Frame, Held, State, At}, Views.RunView.{Stage, Running, Finished}}
use Rattle.gypsy_meaning.specs.declared.activations.Activation.{Activation}

-- a procedure, and the values of its variables: formals, then locals
pub record ActivationOf : Type 0 where
  pub procedure : ℕ
  pub values : List ValueOf

-- what clauses see of an `Activation`
abbrev pub activation_seen : Activation → ActivationOf
activation_seen a = record { procedure = a.procedure; values = held_values a.variables.items }

abbrev pub activation_of : Frame → ActivationOf
activation_of (Held p x w xs cs) = record { procedure = p; values = x }

abbrev pub active_in : State → ActivationOf
active_in (At p x w fs t) = record { procedure = p; values = x }

-- the one that goes on first comes first; none at the end
unfoldable pub waiting_at : Stage → List ActivationOf
waiting_at (Running (At p x w fs t)) = map activation_of fs
waiting_at (Finished x c) = []
