use Rattle.std.proofs.Common.{◌≡◌, false, refl, subst, lit<, arith}
use Rattle.spec_records.specs.declared.record.ThreadState.TheVariants as is
use Rattle.std.proofs.Common.{true}
use Rattle.spec_kernel.specs.Words.{state_at, state_of, step}
use Rattle.law_examples.specs.PortRuns.{interrupted_get_start, interrupted_get_turns}
use Rattle.law_examples.proofs.port_laws.interrupted.Goals as goal

pub returns-clause-begins : goal.returns-clause-begins
unfolding step
returns-clause-begins c =
    record {
      number = 1;
      names = refl;
      too_few = record { port = _; there = refl; no_alert = refl; too_few = lit< tt };
      waits = refl;
    }

marked : state_of (state_at interrupted_get_start interrupted_get_turns 3) 1 ≡ is.Getting 1 1 1 true true
unfolding step
marked = refl

pub returns-clause-interrupted : goal.returns-clause-interrupted
unfolding step
returns-clause-interrupted c =
    record {
      at = 2;
      turn = _;
      earlier = lit< tt;
      found = refl;
      interrupt = refl;
      already = false;
      waited = refl;
      since =
          λ j l h.
          let same : 3 ≡ j = omega (arith, l, h) in
          subst (λ n. state_of (state_at interrupted_get_start interrupted_get_turns n) 1 ≡ is.Getting 1 1 1 true true) same marked;
    }
