use Rattle.std.proofs.Common.{ℕ, ◌≡◌, ◌<◌, ◌≤◌, ◌⊎◌, [], ◌∷◌, false, refl, subst, inl, inr, lit<, lit≤, arith}
use Rattle.dk_base.specs.declared.request.Op.TheVariants as op
use Rattle.spec_records.specs.declared.record.ThreadState.TheVariants as is
use Rattle.spec_kernel.specs.Words.{state_at, state_of, step}
use Rattle.spec_kernel.specs.Opening.IsOpening.{processes, thread}
use Rattle.law_examples.specs.TaskRuns.{first_input, tasks_start, tasks_turns}
use Rattle.law_examples.proofs.task_runs.tasks.Goals as goal

pub returns-clause-goes : goal.returns-clause-goes
unfolding step
returns-clause-goes c =
    record {
      opens = thread 2 false (lit≤ tt) (lit≤ tt) (lit< tt) (thread 1 false (lit≤ tt) (lit≤ tt) (lit< tt) (processes (256 ∷ 256 ∷ [])));
      taken = refl;
      answered = refl;
      over = refl;
    }

pub returns-clause-begins : goal.returns-clause-begins
unfolding step
returns-clause-begins c = record { waits = refl; is_at_it = refl }

begun : state_of (state_at tasks_start tasks_turns 1) 1 ≡ is.Working op.Reverse first_input
unfolding step
begun = refl

interrupted : state_of (state_at tasks_start tasks_turns 2) 1 ≡ is.Working op.Reverse first_input
unfolding step
interrupted = refl

pub returns-clause-asked : goal.returns-clause-asked
unfolding step
returns-clause-asked c =
    record { at = 0; turn = _; earlier = lit< tt; found = refl; its_own = refl; work = refl; since = λ j l h. go j (split j l h) }
  where
    split : (j : ℕ) → 0 < j → j ≤ 2 → (1 ≡ j) ⊎ (2 ≡ j)
    split j l h = grind arith

    go : (j : ℕ) → (1 ≡ j) ⊎ (2 ≡ j) → state_of (state_at tasks_start tasks_turns j) 1 ≡ is.Working op.Reverse first_input
    go j (inl e) = subst (λ n. state_of (state_at tasks_start tasks_turns n) 1 ≡ is.Working op.Reverse first_input) e begun
    go j (inr e) = subst (λ n. state_of (state_at tasks_start tasks_turns n) 1 ≡ is.Working op.Reverse first_input) e interrupted

pub returns-clause-ended : goal.returns-clause-ended
unfolding step
returns-clause-ended c = refl

pub returns-clause-again : goal.returns-clause-again
unfolding step
returns-clause-again c = refl

pub returns-clause-killed : goal.returns-clause-killed
unfolding step
returns-clause-killed c = refl
