-- What becomes of a call that its caller leaves.
use Rattle.std.proofs.lemmas.Bool.Decides.{nat_tests}
use Rattle.std.proofs.Common.{arith, ◌≡◌, ℕ, true, false, List, [], Some, filter, refl, sym}
use Rattle.dk_base.specs.declared.error.Errno.TheVariants.{EINTR}
use Rattle.dk_base.specs.declared.object.Obj.{Obj}
use Rattle.spec_records.specs.declared.record.Call.{Call}
use Rattle.spec_records.specs.declared.record.CallStage.{CallStage}
use Rattle.spec_records.specs.declared.record.CallStage.TheVariants as stage
use Rattle.spec_records.specs.Words.{Leaving, broken_call_at, gone_call_at, interruption, is_live, is_live_call, left_call, thread_end}
use Rattle.call_tree.specs.Words.{calls_in, look, with_call, without_key}
use Rattle.call_tree.specs.Calls.{dropped_at, held_at, is_waiting}
use Rattle.call_tree.specs.declared.parts.Leave.TheVariants.{Finished, Interrupted}
use Rattle.call_tree.specs.Index.{AreSingle, is_entered, is_open, moved_to}
use Rattle.call_tree.proofs.Keys.{gone_removed, live_changed, live_same, lives, looked}
use Rattle.call_tree.proofs.Looks.{test_same}

-- interrupted

pub closed_same : (who : Leaving) (s : CallStage) (r : Call) → is_open s ≡ false → broken_call_at who s r ≡ r
closed_same who s r h = grind (arith, nat_tests)

pub open_broken : (s : CallStage) (r : Call) → is_open s ≡ true → r.abandoned ≡ false → broken_call_at (interruption r.caller.0) s r ≡ moved_to (stage.Ended EINTR) (is_entered s) r
open_broken s r h e = grind (arith, nat_tests)

pub open_dropped : (s : CallStage) (objects : List Obj) → is_open s ≡ true → (is_waiting s ≡ false → objects ≡ []) → objects ≡ dropped_at Interrupted s objects
open_dropped s os h b = grind (arith, nat_tests)

broken_live : (who : Leaving) (s : CallStage) (r : Call) → is_live s ≡ true → is_live_call r ≡ true → is_live_call (broken_call_at who s r) ≡ true
broken_live who s r h k = grind (arith, nat_tests)

-- ended

pub gone_dead : (s : CallStage) (r : Call) → r.stage ≡ s → is_live_call (gone_call_at s r) ≡ false
gone_dead s r e = grind (arith, nat_tests)

pub held_dropped : (s : CallStage) (objects : List Obj) → (is_waiting s ≡ false → objects ≡ []) → held_at s objects ≡ dropped_at Finished s objects
held_dropped s os b = grind (arith, nat_tests)

module _ {es : List (ℕ × Call)} (single : AreSingle es) (k : ℕ) (r : Call) (l : look k es ≡ Some r) where
  pub interrupted_calls : calls_in (with_call k (broken_call_at (interruption r.caller.0) r.stage r) es) ≡ filter is_live_call (calls_in (with_call k (left_call (interruption r.caller.0) r) es))
  interrupted_calls =
      let live = lives es single.apart (λ j x m. (single.sound j x m).live) in
      let h = (single.sound k r l).live in
      sym (live_same _ (live_changed es k (broken_call_at (interruption r.caller.0) r.stage r) (broken_live (interruption r.caller.0) r.stage r h h) live))

  pub ended_calls : calls_in (without_key k es) ≡ filter is_live_call (calls_in (with_call k (left_call (thread_end r.caller.0) r) es))
  ended_calls =
      let live = lives es single.apart (λ j x m. (single.sound j x m).live) in
      rw (test_same r.caller.0) (sym (gone_removed es k (gone_call_at r.stage r) (gone_dead r.stage r refl) (looked k es r l) live))

  pub answered_calls : (x : Call) → is_live_call x ≡ false → calls_in (without_key k es) ≡ filter is_live_call (calls_in (with_call k x es))
  answered_calls x h =
      let live = lives es single.apart (λ j y m. (single.sound j y m).live) in
      sym (gone_removed es k x h (looked k es r l) live)
