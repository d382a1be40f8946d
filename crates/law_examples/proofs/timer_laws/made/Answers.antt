use Rattle.std.proofs.Common.{ℕ, ◌≡◌, ◌<◌, None, refl, subst, arith}
use Rattle.spec_records.specs.Words.{pid}
use Rattle.spec_kernel.specs.Words.{state_at, step}
use Rattle.spec_records.specs.Timers.{free_id}
use Rattle.spec_records.specs.Moments.{moments_until}
use Rattle.law_runs.specs.TimerLives.{Stands}
use Rattle.law_examples.specs.PortLaws.{fd}
use Rattle.law_examples.specs.PortRuns.{pipe_start}
use Rattle.law_examples.specs.TimerLaws.{timer_of}
use Rattle.law_examples.specs.TimerRuns.{counts_turns}
use Rattle.law_examples.proofs.timer_laws.made.Goals as goal

none_below : {A : Type 0} → (id : ℕ) → id < 0 → A
none_below id l = grind arith

pub returns-clause-first : goal.returns-clause-first
unfolding step free_id moments_until
returns-clause-first c =
    record {
      timer = timer_of 7 None;
      creates =
          record {
            port = fd 0;
            request = refl;
            answered = refl;
            of_port = refl;
            by_own = refl;
            number = refl;
            next = refl;
            not_armed = refl;
            free = refl;
            lowest = λ id l. none_below id l;
          };
      same_id = refl;
      same_user = refl;
      after = refl;
    }

stands : Stands (state_at pipe_start counts_turns 10) 1 0
unfolding step free_id moments_until
stands = record { timer = _; there = refl }

below_1 : (id : ℕ) → id < 1 → 0 ≡ id
below_1 id l = grind arith

pub returns-clause-second : goal.returns-clause-second
unfolding step free_id moments_until
returns-clause-second c =
    record {
      timer = record { process = pid 1; id = 1; port = 1; user = 1; number = 2; arming = None };
      creates =
          record {
            port = fd 0;
            request = refl;
            answered = refl;
            of_port = refl;
            by_own = refl;
            number = refl;
            next = refl;
            not_armed = refl;
            free = refl;
            lowest = λ id l. subst (Stands (state_at pipe_start counts_turns 10) 1) (below_1 id l) stands;
          };
      same_id = refl;
      same_user = refl;
      after = refl;
    }

pub returns-clause-of_child : goal.returns-clause-of_child
unfolding step free_id moments_until
returns-clause-of_child c =
    record {
      timer = record { process = pid 2; id = 0; port = 1; user = 8; number = 2; arming = None };
      creates =
          record {
            port = fd 0;
            request = refl;
            answered = refl;
            of_port = refl;
            by_own = refl;
            number = refl;
            next = refl;
            not_armed = refl;
            free = refl;
            lowest = λ id l. none_below id l;
          };
      same_id = refl;
      same_user = refl;
      after = refl;
    }

pub returns-clause-so_many : goal.returns-clause-so_many
unfolding step free_id moments_until
returns-clause-so_many c = refl
