-- The step that ends a run, as the code has it.
use Rattle.std.specs.Prelude.{◌≡◌, ℕ, length, take, Bool, Some}
use Rattle.gypsy_syntax.specs.Programs.{proc_at}
use Rattle.gypsy_space.specs.{Costs.{count_of, leaving}, Nodes.{held_names, held_values, seen_program}}
use Rattle.gypsy_semantics.specs.Calls.{main_formals}
use Rattle.gypsy_meaning.specs.{Views.Running.{paid}, declared.running.Ending.{Ending}, declared.running.Meaning.{Meaning}}

-- of a condition that leaves main: a formal one or spaceerror, or another
abbrev pub end_price : Bool → ℕ
end_price passed = count_of (leaving passed)

-- ended in this way and at this cost, with main's formals
pub record IsFinished (ending : Ending) (cost : ℕ) (m n : Meaning) : Type 0 where
  pub values : held_values n.variables.items ≡ main_formals (seen_program m.program) (held_values m.variables.items)
  pub named : let q = seen_program m.program in
      held_names n.variables.items ≡ take (length (proc_at q q.main).formals) (held_names m.variables.items)
  pub others : n ≡ paid cost (record m { variables = n.variables; ending = Some ending })
