use Rattle.cli_stack.proofs.BudgetLaws.{budgets_settle}
use Rattle.cli_stack.proofs.laws.budgets_settle.Goals as goal

pub returns : goal.returns
returns c = budgets_settle
