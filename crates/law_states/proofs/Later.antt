-- An arrow of an act, seen from a later state in which the same doors are valid and the same threads are done.
use Rattle.std.specs.Prelude.{ℕ, ◌≡◌, Option, Some, None}
use Rattle.std.proofs.Common.{◌∙◌, ap, refl}
use Rattle.spec_kernel.specs.Types.{Answer, Call, Errno, Inv, Notice, Request}
use Rattle.spec_records.specs.declared.record.ThreadState.TheVariants as is
use Rattle.spec_kernel.specs.Words.{State, door_of, falls_to_one, is_valid, state_of}
use Rattle.spec_records.specs.Words.{is_valid_in}
use Rattle.law_states.specs.Arrows.{ByAct, EndsBy, EndsNow, NoticeByAct}
use Rattle.law_states.specs.Arrows.ByAct.{stays, makes, enters, returns, ends, breaks_off, leaves, collects_results, collects_nothing, collects_error}
use Rattle.law_states.specs.Arrows.NoticeByAct.{stays as notice_stays, makes as notice_makes, enters as notice_enters, returns as notice_returns, drops as notice_drops, ends as notice_ends}
use Rattle.law_states.specs.Arrows.EndsBy.{door_invalid, server_full, interrupted, server_ended}
use Rattle.law_states.specs.Events.{InvocationArrow, IsCancelled, IsLeft}
use Rattle.law_states.specs.Events.InvocationArrow.{stays as invocation_stays, begins, cancels, ends as invocation_ends, leaves as invocation_leaves}
use Rattle.law_states.specs.Events.IsLeft.{interrupted as is_interrupted, caller_ends}

-- a thread is done in both of two states, or in neither
pub record AreSameDone (n o : State) : Type 0 where
  pub after : (u : ℕ) → state_of n u ≡ is.Done → state_of o u ≡ is.Done
  pub before : (u : ℕ) → state_of o u ≡ is.Done → state_of n u ≡ is.Done

pub ends_now_later : (m n o : State) (u : ℕ) → AreSameDone n o → EndsNow m n u → EndsNow m o u
ends_now_later m n o u d e = record { before = e.before; after = d.after u e.after }

ends_later :
    (m : State) (t : ℕ) (q : Option Request) (a : Answer) (n o : State) (r : Call) (e : Errno) →
    ((d : ℕ) → is_valid o d ≡ is_valid n d) → AreSameDone n o → EndsBy m t q a n r e → EndsBy m t q a o r e
ends_later m t q a n o r _ h d (door_invalid e f g k) = door_invalid e f (h r.door ∙ g) (λ z. k (d.before r.caller.0 z))
ends_later m t q a n o r _ h d (server_full e f g k l) = server_full e f g k l
ends_later m t q a n o r _ h d (interrupted e f k) = interrupted e f (λ z. k (d.before r.caller.0 z))
ends_later m t q a n o r _ h d (server_ended u e f k) = server_ended u e (ends_now_later m n o u d f) (λ z. k (d.before r.caller.0 z))

pub by_act_later :
    (m : State) (t : ℕ) (q : Option Request) (a : Answer) (n o : State) (before after : Option Call) →
    ((d : ℕ) → is_valid o d ≡ is_valid n d) → AreSameDone n o → ByAct m t q a n before after → ByAct m t q a o before after
by_act_later m t q a n o before after h d stays = stays
by_act_later m t q a n o before after h d (makes door rsize fd bytes pass e f g k) = makes door rsize fd bytes pass e f g k
by_act_later m t q a n o before after h d (enters r e f g k l) = enters r e f g k l
by_act_later m t q a n o before after h d (returns r bytes pass e f g k l) = returns r bytes pass e f g k l
by_act_later m t q a n o before after h d (ends r e f) = ends r e (ends_later m t q a n o r e h d f)
by_act_later m t q a n o before after h d (breaks_off r u e f k) = breaks_off r u e f (λ z. k (d.before r.caller.0 z))
by_act_later m t q a n o before after h d (leaves r e f) = leaves r e (ends_now_later m n o r.caller.0 d f)
by_act_later m t q a n o before after h d (collects_results r bytes objects e f g k l z) = collects_results r bytes objects e f g k l z
by_act_later m t q a n o before after h d (collects_nothing r bytes objects e f g k l z) = collects_nothing r bytes objects e f g k l z
by_act_later m t q a n o before after h d (collects_error r e f g k l z) = collects_error r e f g k l z

-- doors and their references are the same in two states
pub record AreSameDoors (m n o : State) : Type 0 where
  pub doors : (d : ℕ) → door_of o d ≡ door_of n d
  pub falls : (d : ℕ) → falls_to_one m o d ≡ falls_to_one m n d

pub notice_by_act_later :
    (m : State) (t : ℕ) (q : Option Request) (a : Answer) (n o : State) (before after : Option Notice) →
    AreSameDoors m n o → AreSameDone n o → NoticeByAct m t q a n before after → NoticeByAct m t q a o before after
notice_by_act_later m t q a n o before after h d notice_stays = notice_stays
notice_by_act_later m t q a n o before after h d (notice_makes x y e f g k l) =
    notice_makes x y (h.doors x.door ∙ e) f (h.falls x.door ∙ g) k l
notice_by_act_later m t q a n o before after h d (notice_enters x e f g k) = notice_enters x e f g k
notice_by_act_later m t q a n o before after h d (notice_returns x bytes pass e f g) = notice_returns x bytes pass e f g
notice_by_act_later m t q a n o before after h d (notice_drops x e f g) = notice_drops x e f (ap is_valid_in (h.doors x.door) ∙ g)
notice_by_act_later m t q a n o before after h d (notice_ends x u e f) = notice_ends x u e (ends_now_later m n o u d f)

-- one of an act that makes no notice, from a later state in which the same doors are valid
pub notice_left_later :
    (m : State) (t : ℕ) (q : Option Request) (a : Answer) (n o : State) (before after : Option Notice) →
    ((d : ℕ) → is_valid o d ≡ is_valid n d) → AreSameDone n o → (before ≡ None → after ≡ None) → NoticeByAct m t q a n before after →
    NoticeByAct m t q a o before after
notice_left_later m t q a n o before after h d none notice_stays = notice_stays
notice_left_later m t q a n o before after h d none (notice_makes x y e f g k l) = absurd (some_is_none x (none refl))
  where
    some_is_none : (x : Notice) → Some x ≡ None → ⊥
    some_is_none x e = cc
notice_left_later m t q a n o before after h d none (notice_enters x e f g k) = notice_enters x e f g k
notice_left_later m t q a n o before after h d none (notice_returns x bytes pass e f g) = notice_returns x bytes pass e f g
notice_left_later m t q a n o before after h d none (notice_drops x e f g) = notice_drops x e f (h x.door ∙ g)
notice_left_later m t q a n o before after h d none (notice_ends x u e f) = notice_ends x u e (ends_now_later m n o u d f)

-- the arrows of invocations

left_later : (m : State) (t : ℕ) (q : Option Request) (n o : State) (r : Call) → AreSameDone n o → IsLeft m t q n r → IsLeft m t q o r
left_later m t q n o r d (is_interrupted e) = is_interrupted e
left_later m t q n o r d (caller_ends e) = caller_ends (ends_now_later m n o r.caller.0 d e)

cancelled_later :
    (m : State) (t : ℕ) (q : Option Request) (n o : State) (u : ℕ) (v : Inv) → AreSameDone n o → IsCancelled m t q n u v →
    IsCancelled m t q o u v
cancelled_later m t q n o u v d c =
    record {
      call = c.call;
      item = c.item;
      there = c.there;
      entered = c.entered;
      may_cancel = c.may_cancel;
      is_left = left_later m t q n o c.call d c.is_left;
    }

pub serves_later :
    (m : State) (t : ℕ) (q : Option Request) (a : Answer) (n o : State) (u : ℕ) (before after : Option Inv) →
    AreSameDone n o → InvocationArrow m t q a n u before after → InvocationArrow m t q a o u before after
serves_later m t q a n o u before after d invocation_stays = invocation_stays
serves_later m t q a n o u before after d (begins i e f g k) = begins i e f g k
serves_later m t q a n o u before after d (cancels v c) = cancels v (cancelled_later m t q n o u v d c)
serves_later m t q a n o u before after d (invocation_ends v bytes pass e f g k) = invocation_ends v bytes pass e f g k
serves_later m t q a n o u before after d (invocation_leaves v e) = invocation_leaves v (d.after u e)
