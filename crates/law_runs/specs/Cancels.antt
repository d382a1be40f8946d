-- Cancels: a server that asks is told the flag of its invocation, and the flag is set exactly where the client of its call left
-- while the server was in it, and the call's door does not have DOOR_NO_CANCEL.
use Rattle.std.specs.Prelude.{ℕ, ◌≡◌, ◌+◌, ◌<◌, ◌≤◌, ◌↔◌, List, Option, Bool, true, false, Some, None, length, slice_get}
use Rattle.spec_kernel.specs.Types.{Call, Door}
use Rattle.dk_base.specs.declared.object.Item.TheVariants as item
use Rattle.dk_base.specs.declared.request.Request.TheVariants as request
use Rattle.dk_base.specs.declared.answer.Answer.TheVariants as answer
use Rattle.spec_kernel.specs.Words.{State, Turn, door_of, invocation_of, is_cancelled, state_at}
use Rattle.law_states.specs.Records.{item_of, record_of}
use Rattle.law_states.specs.Events.{IsLeft}
use Rattle.law_places.specs.Counts.{has_attribute}
use Rattle.law_places.specs.Places.{HasEntered, answer_at}

-- a door has DOOR_NO_CANCEL, 128
abbrev pub bars_cancels : Option Door → Bool
bars_cancels None = false
bars_cancels (Some d) = has_attribute 128 d.attrs

-- At the turn of an earlier place thread u had entered the call of its invocation of place i, whose door does not bar cancels, and
-- the caller of this call was interrupted, or ended.
pub record WasLeft (m : State) (xs : List Turn) (i u : ℕ) : Type 0 where
  pub at : ℕ
  pub turn : Turn
  pub earlier : at < i
  pub found : slice_get xs at ≡ Some turn
  pub call : Call
  pub there : record_of (state_at m xs at) call.number ≡ Some call
  pub entered : HasEntered (state_at m xs at) u call.number
  pub may_cancel : bars_cancels (door_of (state_at m xs at) call.door) ≡ false
  pub is_left : IsLeft (state_at m xs at) turn.thread turn.request (state_at m xs (at + 1)) call
  pub same : item_of (state_at m xs i) u ≡ Some (item.Call call.number)

pub record Cancels (m : State) (xs : List Turn) : Type 0 where
  pub told :
      (i : ℕ) (x : Turn) → slice_get xs i ≡ Some x → x.request ≡ Some request.TestCancel →
      answer_at m xs i x ≡ answer.Cancel (is_cancelled (invocation_of (state_at m xs i) x.thread))
  pub set_where_left :
      (i u : ℕ) → i ≤ length xs → (is_cancelled (invocation_of (state_at m xs i) u) ≡ true) ↔ WasLeft m xs i u
