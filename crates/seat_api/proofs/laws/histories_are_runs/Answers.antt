use Rattle.seat_desk.proofs.Histories.{all_are_run, runs}
use Rattle.seat_api.proofs.laws.histories_are_runs.Goals as goal

pub returns-clause-run : goal.returns-clause-run
returns-clause-run c = λ m es l. (runs m _ es l).run

pub returns-clause-answers : goal.returns-clause-answers
returns-clause-answers c = λ m es l. (runs m _ es l).answers

pub returns-clause-state : goal.returns-clause-state
returns-clause-state c = λ m es l. (runs m _ es l).state

pub returns-clause-all : goal.returns-clause-all
returns-clause-all c = all_are_run
