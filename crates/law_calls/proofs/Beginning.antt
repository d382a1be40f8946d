-- As a process begins, what calls say of threads is kept: its threads are Dormant before, and such a thread neither waits in a call nor
-- serves one.
use Rattle.std.proofs.Common.{◌≡◌, ℕ, ◌==◌, ◌&&◌, Bool, true, false, not, if◌then◌else◌, List, Option, Some, None, option_map, refl, sym, ap, ◌∙◌, arith}
use Rattle.std.proofs.lemmas.Bool.Decides.{nat_tests}
use Rattle.spec_records.specs.declared.record.CallStage.TheVariants as stage
use Rattle.spec_records.specs.declared.record.ThreadState.TheVariants as is
use Rattle.spec_records.specs.Words.{ProcessTable, begin_process, begun_thread, invocation_in, is_dormant, state_in, thread_at, thread_at_state}
use Rattle.spec_kernel.specs.Types.{Call, CallStage, Thread, ThreadState}
use Rattle.spec_kernel.proofs.Threads.{thread_at-begin_process}
use Rattle.law_states.specs.Core.{is_outside}
use Rattle.law_states.specs.Records.{item_in}
use Rattle.law_calls.specs.Backed.{AreBacked, IsBacked, IsServedAt}
use Rattle.law_calls.proofs.Alls.{all_goes}

same_number : (a b : ℕ) → (a == b) ≡ true → a ≡ b
same_number a b e = grind (arith, nat_tests)

inside_not_dormant : (s : ThreadState) → is_outside s ≡ false → is_dormant s ≡ false
inside_not_dormant s e = grind (arith, nat_tests)

module _
    (table : ProcessTable) (child : ℕ) (dormant : (t : ℕ) (x : Thread) → thread_at table t ≡ Some x → x.process.0 ≡ child → is_dormant x.state ≡ true) where
  abbrev after : ProcessTable
  after = begin_process table child

  -- a thread that is not Dormant stays as it is
  pub begun_elsewhere : (t : ℕ) → is_dormant (state_in (thread_at table t)) ≡ false → thread_at after t ≡ thread_at table t
  begun_elsewhere t awake = thread_at-begin_process table child t ∙ go (thread_at table t) refl awake
    where
      go : (o : Option Thread) → thread_at table t ≡ o → is_dormant (state_in o) ≡ false → option_map (begun_thread child) o ≡ o
      go None e f = refl
      go (Some x) e f = by_process (x.process.0 == child) refl
        where
          by_process : (b : Bool) → (x.process.0 == child) ≡ b → Some (if b && not x.spare then thread_at_state is.Running x else x) ≡ Some x
          by_process true g =
              let asleep : is_dormant x.state ≡ true = dormant t x e (same_number x.process.0 child g) in
              let m : true ≡ false = sym asleep ∙ f in
              absurd cc
          by_process false g = refl

  served : (c : ℕ) (s : CallStage) → IsServedAt table c s → IsServedAt after c s
  served c (stage.Given u) h = ap state_in (begun_elsewhere u.0 (ap is_dormant h)) ∙ h
  served c (stage.Entered u) h =
      let k = begun_elsewhere u.0 (inside_not_dormant _ h.1) in
      (ap (λ o. item_in (invocation_in o)) k ∙ h.0, ap (λ o. is_outside (state_in o)) k ∙ h.1)
  served c stage.Queued h = tt
  served c (stage.Returned bytes objects) h = tt
  served c (stage.Ended e) h = tt
  served c (stage.Answered k) h = tt
  served c stage.Gone h = tt

  backed_one : (r : Call) → IsBacked table r → IsBacked after r
  backed_one r b =
      record {
        calling = ap state_in (begun_elsewhere r.caller.0 (ap is_dormant b.calling)) ∙ b.calling;
        served = served r.number r.stage b.served;
        abandoned = b.abandoned;
      }

  pub backed_begin : (calls : List Call) → AreBacked table calls → AreBacked (begin_process table child) calls
  backed_begin calls b = all_goes (IsBacked table) (IsBacked after) backed_one calls b
