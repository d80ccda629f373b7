-- Statements that run to their ends.
use Rattle.std.specs.Prelude.{◌≡◌, ℕ, List}
use Rattle.stack_text.specs.Values.{ValueOf}
use Rattle.gypsy_syntax.specs.Programs.{Program, Stmt}
use Rattle.gypsy_space.specs.Needs.{StackSizes}
use Rattle.gypsy_semantics.specs.{Calls.{CurrentCondition}, Meaning.{Done, evaluate}}

-- From the variables x, with u words of the two stacks in use, the statement s ends with the variables y and the condition c.
pub record Runs (q : Program) (sizes u : StackSizes) (s : Stmt) (x y : List ValueOf) (c : CurrentCondition) : Type 0 where
  pub bound : ℕ
  pub done : evaluate q sizes bound s u x ≡ Done y c
