use Rattle.law_histories.proofs.Runs.{all_shown, answer_at, run}
use Rattle.law_histories.proofs.laws.histories_are_runs.Goals as goal

pub returns-clause-run : goal.returns-clause-run
returns-clause-run c = λ h l. run h.opening h.entries l.legal

pub returns-clause-laws : goal.returns-clause-laws
returns-clause-laws c = λ h l. c.every_run.ensures h.opening _ l.opens (run h.opening h.entries l.legal)

pub returns-clause-answers : goal.returns-clause-answers
returns-clause-answers c = λ h l i e f. answer_at h.opening h.entries i e l.legal f

pub returns-clause-events : goal.returns-clause-events
returns-clause-events c = all_shown c.every_run.ensures
