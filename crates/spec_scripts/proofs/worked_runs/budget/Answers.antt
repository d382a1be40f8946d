use Rattle.spec_scripts.proofs.BudgetRow.{budget_row}
use Rattle.spec_scripts.proofs.worked_runs.budget.Goals as goal

pub returns : goal.returns
returns c = budget_row
