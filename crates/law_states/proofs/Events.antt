-- Every event keeps the invariant; calls, invocations, notices and doors take the arrows of their tables; and what answers tell is so.
use Rattle.std.specs.Prelude.{ℕ, ◌≡◌, Option}
use Rattle.std.proofs.Common.{refl}
use Rattle.spec_kernel.specs.Types.{Call, Request}
use Rattle.dk_base.specs.declared.answer.Answer.TheVariants as answer
use Rattle.spec_kernel.specs.Words.{MayTurn, State, act, step}
use Rattle.law_states.specs.Records.{record_of}
use Rattle.law_states.specs.Invariant.{Invariant}
use Rattle.law_states.specs.Arrows.{ByGiving}
use Rattle.law_states.specs.Arrows.ByGiving.{stays, gives}
use Rattle.law_states.specs.Events.{IsMade, IsToldBy, Keeps}
use Rattle.law_states.proofs.Steps.{StepDoes, step_does, step_invariant, step_arrows}
use Rattle.law_states.proofs.NoticeSteps.{step_noticed, step_notices}
use Rattle.law_states.proofs.Serving.{step_serves}
use Rattle.law_states.proofs.Doors.{step_holds}
use Rattle.law_states.proofs.Answers.{Tells, act_tells, is_there}
use Rattle.law_states.proofs.Waits.{step_accepted, step_collected}
use Rattle.law_states.proofs.ReadyTurns.{turn_ready}
use Rattle.law_states.proofs.Refusals.{step_refused}
use Rattle.law_states.proofs.Losing.{act_none_lost}

step_tells : (m : State) (t : ℕ) (q : Option Request) → Invariant m → IsToldBy m t q (step m t q).answer
unfolding step
step_tells m t q h =
    let k : Tells m t q (act m t q) = act_tells m t q h.consistent in
    k.told

-- giving takes no call away
still_made : (o p : Option Call) → ByGiving o p → IsMade o → IsMade p
still_made o p stays h = h
still_made o p (gives r u e) h = record { made = _; there = refl }

step_called :
    (m : State) (t : ℕ) (q : Option Request) (c : ℕ) → Invariant m → MayTurn m t q → (step m t q).answer ≡ answer.WaitCall c →
    IsMade (record_of (step m t q).state c)
unfolding step
step_called m t q c h may e =
    let d : StepDoes m t q = step_does m t q h may in
    still_made _ _ (d.settled.gave.arrows c) (is_there m t q (act m t q) c (act_tells m t q h.consistent) e)

pub step_keeps : (m : State) (t : ℕ) (q : Option Request) → Invariant m → MayTurn m t q → Keeps m t q
step_keeps m t q h may =
    record {
      invariant = step_invariant m t q h may;
      arrows = λ c. step_arrows m t q c h may;
      invocations = λ u. step_serves m t q u h may;
      notices = λ c. step_notices m t q c h may;
      noticed = λ d x e f g. step_noticed m t q d x h may e f g;
      doors = λ d. step_holds m t q d h may;
      told = step_tells m t q h;
      called = λ c e. step_called m t q c h may e;
      accepted = λ c e f. step_accepted m t q c h may e f;
      collected = λ c e f. step_collected m t q c h may e f;
      refused = λ r e f g. step_refused m t q r e h f g;
      none_lost = λ e u. act_none_lost m t u q h may e;
      is_ready = turn_ready m t q h may;
    }
