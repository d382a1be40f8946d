use Rattle.std.proofs.Common.{[], ◌∷◌, false, refl, lit<, lit≤}
use Rattle.spec_kernel.specs.Words.{step}
use Rattle.spec_kernel.specs.Opening.IsOpening.{processes, thread}
use Rattle.law_examples.proofs.worked_run.a_call_and_a_notice.Goals as goal

pub returns-clause-opens : goal.returns-clause-opens
returns-clause-opens c =
    thread 2 false (lit≤ tt) (lit≤ tt) (lit< tt)
    (thread 1 false (lit≤ tt) (lit≤ tt) (lit< tt) (thread 1 false (lit≤ tt) (lit≤ tt) (lit< tt) (processes (16 ∷ 16 ∷ []))))

pub returns-clause-is_run : goal.returns-clause-is_run
unfolding step
returns-clause-is_run c = (
  record { running = refl; fit = tt; few = lit< tt },
  (
    record { running = refl; fit = tt; few = lit< tt },
    (
      record { running = refl; fit = tt; few = lit< tt },
      (
        record { running = refl; fit = tt; few = lit< tt },
        (
          record { running = refl; fit = tt; few = lit< tt },
          (
            record { runnable = refl; waits = refl; few = lit< tt },
            (
              record { running = refl; fit = tt; few = lit< tt },
              (
                record { runnable = refl; waits = refl; few = lit< tt },
                (
                  record { running = refl; fit = tt; few = lit< tt },
                  (
                    record { running = refl; fit = tt; few = lit< tt },
                    (record { runnable = refl; waits = refl; few = lit< tt }, tt),
                  ),
                ),
              ),
            ),
          ),
        ),
      ),
    ),
  ),
)

pub returns-clause-answered : goal.returns-clause-answered
unfolding step
returns-clause-answered c = refl

pub returns-clause-enters : goal.returns-clause-enters
unfolding step
returns-clause-enters c = record { within = lit< tt; before = refl; after = refl }

pub returns-clause-returns : goal.returns-clause-returns
unfolding step
returns-clause-returns c = record { within = lit< tt; before = refl; after = refl }

pub returns-clause-collects : goal.returns-clause-collects
unfolding step
returns-clause-collects c = record { within = lit< tt; before = refl; after = refl }

pub returns-clause-makes_notice : goal.returns-clause-makes_notice
unfolding step
returns-clause-makes_notice c = record { within = lit< tt; none_before = refl; made = _; there = refl; door = refl }

pub returns-clause-enters_notice : goal.returns-clause-enters_notice
unfolding step
returns-clause-enters_notice c = record { within = lit< tt; before = refl; after = refl }
