-- The end of a procedure for which another waits, as the code has it.
use Rattle.std.specs.Prelude.{◌≡◌, ℕ, ◌+◌, Bool, true, false}
use Rattle.gypsy_space.specs.{Costs.{count_of, raised_price}, Nodes.{held_names, held_values}}
use Rattle.gypsy_space.specs.declared.event.CostEvent.TheVariants as event
use Rattle.gypsy_semantics.specs.Calls.{copied_out}
use Rattle.gypsy_meaning.specs.{declared.running.Frame.{Frame}, declared.running.Meaning.{Meaning}}

-- what a condition costs that leaves a procedure: a formal one or spaceerror, or another, and where it was caught or not
abbrev pub out_price : Bool → Bool → ℕ
out_price passed true = (raised_price passed).0 + count_of event.Caught
out_price passed false = (raised_price passed).0

-- the activation goes on, with the callee's formals put back
pub record Resumes (m n : Meaning) (f : Frame) : Type 0 where
  pub values : held_values n.variables.items
      ≡ copied_out f.call.value.actuals.items (held_values m.variables.items) (held_values f.variables.items)
  pub named : held_names n.variables.items ≡ held_names f.variables.items
  pub procedure : n.procedure ≡ f.procedure
  pub work : n.work ≡ f.work
  pub waiting : n.waiting ≡ m.waiting
  pub used_temp : n.used_temp ≡ f.used_temp
  pub used_ctrl : n.used_ctrl ≡ f.used_ctrl
  pub program : n.program ≡ m.program
  pub names : n.names ≡ m.names
  pub unnamed : n.unnamed ≡ m.unnamed
  pub start_values : n.values ≡ m.values
  pub ending : n.ending ≡ m.ending
  pub temp : n.temp ≡ m.temp
  pub ctrl : n.ctrl ≡ m.ctrl
  pub steps : n.steps ≡ m.steps
  pub counted : n.counted ≡ m.counted
