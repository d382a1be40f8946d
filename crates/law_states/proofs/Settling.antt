-- What the kernel does after an act: notices are made of doors that are due, idle threads that lost their door fail, calls and
-- notices that wait are given to the others, until no pool has both, spare threads start, and ports are told. Then no idle thread has lost the door that it is bound to.
use Rattle.std.specs.Prelude.{ℕ, ◌≡◌, ◌+◌, ◌&&◌, ◌||◌, not, List, [], ◌∷◌, Option, Bool, true, false, ◌==◌, if◌then◌else◌, Some, None, All, is_none, is_some, slice_get, suc}
use Rattle.std.proofs.Common.{inl, inr, refl, sym, ap, ap₂, subst, true≢false, ◌∙◌}
use native.Mathlib.Omega.{arith}
use Rattle.std.proofs.lemmas.Bool.Decides.{nat_tests}
use Rattle.dk_base.specs.declared.object.Item.TheVariants as item
use Rattle.spec_records.proofs.NumberedLists.{find-as, find-past, find-push}
use Rattle.spec_kernel.specs.Types.{Call, Door, Item, Notice, Parked, ThreadState, Waiting}
use Rattle.spec_records.specs.declared.record.ThreadState.TheVariants as is
use Rattle.spec_records.specs.declared.record.CallStage.TheVariants as stage
use Rattle.spec_records.specs.declared.record.NoticeStage.TheVariants as notice
use Rattle.spec_records.specs.Words.{at_stage, call_number, has_common_door, is_common_of, is_pool, is_unborn_in, notice_at, is_idle, pid, thread_at_state, is_queued_as, is_valid_in, is_waiting_notice_as, new_notice, notice_number, set_thread_state, tid, waiting_call, waiting_notice}
use Rattle.spec_records.specs.declared.pool.Pool.TheVariants.{Common}
use Rattle.spec_records.proofs.Lists.{at_number-suc}
use Rattle.spec_kernel.specs.Words.{State, bound_of, door_of, fail_return, fail_returns, find_call, find_notice, give, give_and_start, give_each, give_one, give_to, has_invalid_door, has_lost_door, invocation_of, is_due, is_unborn_process, make_notices, needs_spare, now, pick, pool_of, process_of, settle, settle_pools, state_of, tell, waiting_items, with_state}
use Rattle.law_states.specs.Records.{notice_of, owner_in, record_of}
use Rattle.law_states.specs.Core.{core, door_in, notice_in, noticed_door_in}
use Rattle.law_states.specs.Coherent.{bound_for}
use Rattle.law_states.specs.Invariant.{IsConsistent, Invariant}
use Rattle.law_states.specs.Told.{AreTold}
use Rattle.law_states.proofs.Telling.{tells}
use Rattle.law_states.specs.Arrows.{ByGiving, NoticeByGiving}
use Rattle.law_states.specs.Arrows.NoticeByGiving.{stays as notice_stays, gives as notice_gives}
use Rattle.law_states.specs.Arrows.ByGiving.{stays, gives}
use Rattle.law_states.proofs.Cores.{Turns, at_one, set_thread_state-turns, upd}
use Rattle.law_states.proofs.NoticeMoves.{GivesNotice, give_notice_keeps, make_notice_keeps}
use Rattle.law_states.proofs.CallMoves.{Gives, give_keeps}
use Rattle.law_states.proofs.Parts.{role_keeps}
use Rattle.law_states.proofs.Consistent.{act_consistent, call_consistent, calls_counted, channels_consistent, change-call, moved-notice, not_unborn, notice_consistent, notices_counted, push_counted, same_tables, there, thread_consistent}
use Rattle.law_states.proofs.Failing.{IsIdleSince, bound-unbind_thread, fail-turns, fail_return-keeps, idle_of_lost}
use Rattle.law_states.proofs.Pending.{IsPendingItem, Pending, all_pending, calls_ascend, notices_ascend, others_are}
use Rattle.law_states.proofs.Pending.IsPendingItem.{a_call, a_notice}
use Rattle.law_states.proofs.Picks.{IsParked, IsOfPool, IsPick, pick_is, parked_is, picked_is, pool_by}
use Rattle.spec_kernel.proofs.Giving.{all_given_out}
use Rattle.spec_kernel.proofs.Notices.{IsDue, due_is}
use Rattle.spec_kernel.proofs.Failing.{has_lost_door-fail_returns}
use Rattle.spec_kernel.proofs.Settling.{KeptByGiving, KeptByNeeded, fail_returns-all, give-all, make_notices-all, make_notices-alone, start_spares-needed, with_notice_of}
use Rattle.spec_kernel.proofs.Places.{IsIn, place_of}
use Rattle.spec_kernel.proofs.Threads.{processes-change_thread}
use Rattle.dk_base.specs.ByNumber.{at_number}

pub giving_then : (o p q : Option Call) → ByGiving o p → ByGiving p q → ByGiving o q
giving_then o p q stays b = b
giving_then o p q (gives r u e) b = go _ _ b refl
  where
    go : (x y : Option Call) → ByGiving x y → x ≡ Some (at_stage (stage.Given (tid u)) r) → ByGiving (Some r) y
    go x y stays f = subst (λ z. ByGiving (Some r) z) (sym f) (gives r u e)
    go x y (gives s v g) f = grind arith

notice_giving_then : (o p q : Option Notice) → NoticeByGiving o p → NoticeByGiving p q → NoticeByGiving o q
notice_giving_then o p q notice_stays b = b
notice_giving_then o p q (notice_gives x u e) b = go _ _ b refl
  where
    go : (y z : Option Notice) → NoticeByGiving y z → y ≡ Some (notice_at (notice.Given (tid u)) x) → NoticeByGiving (Some x) z
    go y z notice_stays f = subst (λ w. NoticeByGiving (Some x) w) (sym f) (notice_gives x u e)
    go y z (notice_gives s v g) f = grind arith

-- the states that a thread leaves by what another thread does
abbrev pub is_at_rest : ThreadState → Bool
is_at_rest is.Dormant = true
is_at_rest (is.Idle since) = true
is_at_rest _ = false

-- what failing, giving and starting keep, and the arrows that calls and notices take by them
pub record Gave (m n : State) : Type 0 where
  pub consistent : IsConsistent n
  pub arrows : (c : ℕ) → ByGiving (record_of m c) (record_of n c)
  pub notices : (c : ℕ) → NoticeByGiving (notice_of m c) (notice_of n c)
  pub serves : (t : ℕ) → invocation_of n t ≡ invocation_of m t
  -- only threads that are idle or dormant turn to another state, and none is done
  pub busy : (t : ℕ) → is_at_rest (state_of m t) ≡ false → state_of n t ≡ state_of m t
  pub done : (t : ℕ) → state_of n t ≡ is.Done → state_of m t ≡ is.Done
  -- no thread loses its door
  pub lost : (t : ℕ) → has_lost_door m t ≡ false → has_lost_door n t ≡ false
  pub doors : (d : ℕ) → door_of n d ≡ door_of m d

pub gave_nothing : (m : State) → IsConsistent m → Gave m m
gave_nothing m h =
    record {
      consistent = h;
      arrows = λ c. stays;
      notices = λ c. notice_stays;
      serves = λ t. refl;
      busy = λ t e. refl;
      done = λ t e. e;
      lost = λ t e. e;
      doors = λ d. refl;
    }

gave_then : (m n o : State) → Gave m n → Gave n o → Gave m o
gave_then m n o g h =
    record {
      consistent = h.consistent;
      arrows = λ c. giving_then (record_of m c) (record_of n c) (record_of o c) (g.arrows c) (h.arrows c);
      notices = λ c. notice_giving_then (notice_of m c) (notice_of n c) (notice_of o c) (g.notices c) (h.notices c);
      serves = λ t. h.serves t ∙ g.serves t;
      busy = λ t e. h.busy t (ap is_at_rest (g.busy t e) ∙ e) ∙ g.busy t e;
      done = λ t e. g.done t (h.done t e);
      lost = λ t e. h.lost t (g.lost t e);
      doors = λ d. h.doors d ∙ g.doors d;
    }

-- What turns a thread that is at rest to a state that is neither idle nor done gives or starts or fails it: the other threads stay.
turned_gave :
    (m n : State) (u : ℕ) (s : ThreadState) → IsConsistent n → ((c : ℕ) → ByGiving (record_of m c) (record_of n c)) →
    ((c : ℕ) → NoticeByGiving (notice_of m c) (notice_of n c)) →
    Turns m.process_table n.process_table u s (core m).serves → n.doors ≡ m.doors → is_at_rest (state_of m u) ≡ true → is_idle s ≡ false →
    (s ≡ is.Done → ⊥) → ((t : ℕ) → has_invalid_door n t ≡ true → has_invalid_door m t ≡ true) → Gave m n
turned_gave m n u s k arrows notices turns doors rest busy done invalid =
    record {
      consistent = k;
      arrows = arrows;
      notices = notices;
      serves = turns.invocation;
      busy = λ t e. grind (arith, nat_tests, turns.role t);
      done = λ t e. grind (arith, nat_tests, turns.role t, done);
      lost = λ t e. grind (arith, nat_tests, turns.role t, invalid t);
      doors = λ d. ap (λ xs. at_number xs d) doors;
    }

-- an item that waits to the pick of its pool if there is one: the others wait as before

record GaveOne (m n : State) (i : Item) : Type 0 where
  gave : Gave m n
  others : (v : Waiting) → (v.item ≡ i → ⊥) → IsPendingItem m v → IsPendingItem n v

give_one_does :
    (m : State) (r : Call) (u : ℕ) → IsConsistent m → Gives (core m) r u → GaveOne m (give_one m (item.Call r.number) u) (item.Call r.number)
give_one_does m r u h g =
    record {
      gave =
          turned_gave m n u (is.Given (item.Call r.number))
          (call_consistent (is_queued_as r.number) change (λ y. refl) m r h found u _ m.tables _ _ (same_tables m h) turns
          (give_keeps (core m) r u h.coherent g))
          (at_one ByGiving (λ o. stays) r.number (change r) (Some r) (λ c. record_of m c) _ after g.found (gives r u g.queued))
          (λ c. notice_stays) turns refl (ap is_at_rest g.idle) refl (λ e. absurd (grind arith)) (λ t e. e);
      others = others;
    }
  where
    change : Call → Call
    change = at_stage (stage.Given (tid u))

    n : State
    n = give_one m (item.Call r.number) u

    found : find_call m (is_queued_as r.number) ≡ Some r
    found = find-as call_number (is_queued_as r.number) m.call_tree.calls r.number r (λ y e. grind (arith, nat_tests)) g.found (grind (arith, nat_tests, g.queued))

    turns : Turns m.process_table n.process_table u (is.Given (item.Call r.number)) (core m).serves
    turns = set_thread_state-turns m.process_table u (is.Given (item.Call r.number)) (there m u (λ z. grind (arith, g.idle)))

    after : (c : ℕ) → record_of n c ≡ upd (core m).call r.number (Some (change r)) c
    after = change-call (is_queued_as r.number) change (λ y. refl) m r h found

    others : (v : Waiting) → (v.item ≡ item.Call r.number → ⊥) → IsPendingItem m v → IsPendingItem n v
    others v e (a_call y f g q) = a_call y f (grind (arith, nat_tests, after y.number)) q
    others v e (a_notice y f g q) = a_notice y f g q

-- the same of a notice
give_notice_does :
    (m : State) (x : Notice) (u : ℕ) → IsConsistent m → notice_of m x.number ≡ Some x → x.stage ≡ notice.Waiting →
    GivesNotice (core m) x.number u → GaveOne m (give_one m (item.Notice x.number) u) (item.Notice x.number)
give_notice_does m x u h there_is waiting g =
    record {
      gave =
          turned_gave m n u (is.Given (item.Notice x.number))
          (notice_consistent (is_waiting_notice_as x.number) (notice.Given (tid u)) m x h found u _ m.tables _ _ (same_tables m h) turns
          (give_notice_keeps (core m) x.number u h.coherent g))
          (λ c. stays)
          (at_one NoticeByGiving (λ o. notice_stays) x.number (notice_at (notice.Given (tid u)) x) (Some x) (notice_of m) _ after there_is (notice_gives x u waiting))
          turns refl (ap is_at_rest g.idle) refl (λ e. absurd (grind arith)) (λ t e. e);
      others = others;
    }
  where
    n : State
    n = give_one m (item.Notice x.number) u

    found : find_notice m (is_waiting_notice_as x.number) ≡ Some x
    found =
        find-as notice_number (is_waiting_notice_as x.number) m.notice_list.notices x.number x (λ y e. grind (arith, nat_tests)) there_is
        (grind (arith, nat_tests, waiting))

    turns : Turns m.process_table n.process_table u (is.Given (item.Notice x.number)) (core m).serves
    turns = set_thread_state-turns m.process_table u (is.Given (item.Notice x.number)) (there m u (λ z. grind (arith, g.idle)))

    after : (c : ℕ) → notice_of n c ≡ upd (notice_of m) x.number (Some (notice_at (notice.Given (tid u)) x)) c
    after = moved-notice (is_waiting_notice_as x.number) (notice.Given (tid u)) m x h found

    others : (v : Waiting) → (v.item ≡ item.Notice x.number → ⊥) → IsPendingItem m v → IsPendingItem n v
    others v e (a_call y f g q) = a_call y f g q
    others v e (a_notice y f g q) = a_notice y f (grind (arith, nat_tests, after y.number)) q

give_call_to_does :
    (m : State) (r : Call) → IsConsistent m → record_of m r.number ≡ Some r → r.stage ≡ stage.Queued →
    GaveOne m (give_to m (waiting_call r) (pick m (pool_of m r.door))) (item.Call r.number)
give_call_to_does m r h e q = go (pick m (pool_of m r.door)) refl
  where
    valid : is_valid_in (door_of m r.door) ≡ true
    valid =
        ap (λ o. is_valid_in (door_of m (door_in o))) (sym e)
        ∙ h.coherent.at_doors.waiting_valid r.number (grind arith)

    go : (o : Option Parked) → pick m (pool_of m r.door) ≡ o → GaveOne m (give_to m (waiting_call r) o) (item.Call r.number)
    go None f = record { gave = gave_nothing m h; others = λ v z p. p }
    go (Some y) f =
        let p : IsParked m y.thread.0 y = parked_is m y.thread.0 y (pick_is m (pool_of m r.door) y f).parked in
        let o : IsOfPool m r.door y.thread.0 = picked_is m r.door y h.coherent valid f in
        give_one_does m r y.thread.0 h
        (record { since = y.since; idle = p.idle; found = e; queued = q; owner = o.owner; bound = o.bound })

give_notice_to_does :
    (m : State) (x : Notice) → IsConsistent m → notice_of m x.number ≡ Some x → x.stage ≡ notice.Waiting →
    GaveOne m (give_to m (waiting_notice x) (pick m (pool_of m x.door))) (item.Notice x.number)
give_notice_to_does m x h e q = go (pick m (pool_of m x.door)) refl
  where
    stage_is : (core m).notice x.number ≡ Some notice.Waiting
    stage_is = ap notice_in e ∙ ap (λ s. Some s) q

    door_is : (core m).noticed_door x.number ≡ x.door
    door_is = ap noticed_door_in e

    valid : is_valid_in (door_of m x.door) ≡ true
    valid = ap (λ d. is_valid_in (door_of m d)) (sym door_is) ∙ h.coherent.notices_at_doors.notice_valid x.number stage_is

    go : (o : Option Parked) → pick m (pool_of m x.door) ≡ o → GaveOne m (give_to m (waiting_notice x) o) (item.Notice x.number)
    go None f = record { gave = gave_nothing m h; others = λ v z p. p }
    go (Some y) f =
        let p : IsParked m y.thread.0 y = parked_is m y.thread.0 y (pick_is m (pool_of m x.door) y f).parked in
        let o : IsOfPool m x.door y.thread.0 = picked_is m x.door y h.coherent valid f in
        give_notice_does m x y.thread.0 h e q
        (record {
          since = y.since;
          idle = p.idle;
          waiting = stage_is;
          owner = ap (λ d. owner_in (door_of m d)) door_is ∙ o.owner;
          bound = o.bound ∙ sym (ap (λ d. bound_for d (door_of m d)) door_is);
        })

give_to_does :
    (m : State) (w : Waiting) → IsConsistent m → IsPendingItem m w → GaveOne m (give_to m w (pick m (pool_of m w.door))) w.item
give_to_does m w h (a_call r e f q) =
    subst (λ (v : Waiting). GaveOne m (give_to m v (pick m (pool_of m v.door))) v.item) (sym e) (give_call_to_does m r h f q)
give_to_does m w h (a_notice x e f q) =
    subst (λ (v : Waiting). GaveOne m (give_to m v (pick m (pool_of m v.door))) v.item) (sym e) (give_notice_to_does m x h f q)

give_each_does : (ws : List Waiting) (m : State) → IsConsistent m → Pending m ws → Gave m (give_each m ws)
give_each_does [] m h p = gave_nothing m h
give_each_does (w ∷ ws) m h p =
    let one : GaveOne m (give_to m w (pick m (pool_of m w.door))) w.item = give_to_does m w h (p.waits w (inl refl)) in
    gave_then _ _ _ one.gave
    (give_each_does ws (give_to m w (pick m (pool_of m w.door))) one.gave.consistent
    (record { waits = λ v i. one.others v (others_are w.item ws v p.distinct.0 i) (p.waits v (inr i)); distinct = p.distinct.1 }))

give_does : (m : State) → IsConsistent m → Gave m (give m)
give_does m h = give_each_does (waiting_items m) m h (all_pending m h)

-- a spare thread starts

start_does :
    (m : State) (t : ℕ) → IsConsistent m → state_of m t ≡ is.Dormant → is_unborn_process m (process_of m t) ≡ false →
    Gave m (with_state m t is.Running)
start_does m t h e b =
    turned_gave m (with_state m t is.Running) t is.Running
    (thread_consistent m t _ m.tables is.Running _ h (same_tables m h) turns
    (role_keeps (core m) t is.Running h.coherent (grind arith) refl refl refl b (λ f. absurd (grind arith))))
    (λ c. stays) (λ c. notice_stays) turns refl (ap is_at_rest e) refl (λ f. absurd (grind arith)) (λ u f. f)
  where
    turns : Turns m.process_table (set_thread_state m.process_table t is.Running) t is.Running (core m).serves
    turns = set_thread_state-turns m.process_table t is.Running (there m t (λ z. grind arith))

-- an idle thread that lost its door fails

fail_does : (m : State) (t : ℕ) → IsConsistent m → has_lost_door m t ≡ true → Gave m (fail_return m t)
fail_does m t h l =
    let i : IsIdleSince m t = idle_of_lost m t l in
    turned_gave m (fail_return m t) t is.FailedReturn (fail_return-keeps m t i.since i.idle h) (λ c. stays) (λ c. notice_stays)
    (fail-turns m t i.since i.idle) refl (ap is_at_rest i.idle) refl (λ f. absurd (grind arith))
    (λ u f. grind (arith, nat_tests, bound-unbind_thread m.bindings t u))

fail_returns_does : (m : State) → IsConsistent m → Gave m (fail_returns m)
fail_returns_does m h =
    fail_returns-all (Gave m) (λ n t l g. gave_then m n (fail_return n t) g (fail_does n t g.consistent l)) m (gave_nothing m h)

-- a notice is made of a door that is due

make_keeps : (before m : State) (d : ℕ) → is_due before m d (door_of m d) ≡ true → IsConsistent m → IsConsistent (with_notice_of m d)
make_keeps before m d due h =
    act_consistent m m.process_table m.tables m.call_tree (with_notice_of m d).notice_list (same_tables m h) refl (calls_counted h)
    (push_counted x (notices_counted h) refl) h.places
    (make_notice_keeps (core m) x.number d _ _ h.coherent (ap notice_in none) valid (λ c. grind (arith, nat_tests, found c))
    (λ c. grind (arith, nat_tests, found c)))
  where
    x : Notice
    x = new_notice (m.notice_list.made + 1) (now m) d

    none : notice_of m x.number ≡ None
    none = find-past notice_number m.notice_list.notices 0 x.number h.notices_in_order (grind (arith, h.notices_counted))

    i : IsDue before m d
    i = due_is before m d due

    valid : is_valid_in (door_of m d) ≡ true
    valid = grind (arith, i.there, i.may)

    found : (c : ℕ) → notice_of (with_notice_of m d) c ≡ (if c == x.number then Some x else notice_of m c)
    found c = find-push notice_number m.notice_list.notices 0 x c h.notices_in_order (grind (arith, h.notices_counted))

-- the making of notices changes them alone
pub record Makes (m n : State) : Type 0 where
  pub consistent : IsConsistent n
  pub alone : n ≡ record m { notice_list = n.notice_list }

pub make_notices_does : (before m : State) → IsConsistent m → Makes m (make_notices before m)
make_notices_does before m h =
    record { consistent = make_notices-all IsConsistent before (make_keeps before) m h; alone = make_notices-alone before m }

-- a process that needs a spare has begun: it made a door, or had an idle thread

has_owner : (doors : List Door) (p : ℕ) → has_common_door doors p ≡ true → (d : Door) × IsIn d doors × (d.owner.0 ≡ p)
has_owner [] p e = absurd (grind arith)
has_owner (x ∷ xs) p e = go (is_common_of p x) refl (has_owner xs p) e
  where
    go :
        (b : Bool) → is_common_of p x ≡ b → (has_common_door xs p ≡ true → (d : Door) × IsIn d xs × (d.owner.0 ≡ p)) →
        b || has_common_door xs p ≡ true → (d : Door) × IsIn d (x ∷ xs) × (d.owner.0 ≡ p)
    go true f ih g = (x, inl refl, grind (arith, nat_tests))
    go false f ih g = let y = ih g in (y.0, inr y.1, y.2)

door_begun : (m : State) (p : ℕ) → IsConsistent m → has_common_door m.doors p ≡ true → is_unborn_process m p ≡ false
door_begun m p h e =
    let x : (d : Door) × IsIn d m.doors × (d.owner.0 ≡ p) = has_owner m.doors p e in
    let i : (i : ℕ) × (slice_get m.doors i ≡ Some x.0) = place_of x.0 m.doors x.1 in
    ap (is_unborn_process m) (sym x.2) ∙ h.coherent.doors.owner_begun (suc i.0) x.0 (at_number-suc m.doors i.0 ∙ i.1)

idle_begun : (m : State) (p : ℕ) (o : Option Parked) → IsConsistent m → pick m (Common (pid p)) ≡ o → is_some o ≡ true → is_unborn_process m p ≡ false
idle_begun m p None h e f = absurd (grind arith)
idle_begun m p (Some y) h e f =
    let i : IsPick m (Common (pid p)) y = pick_is m (Common (pid p)) y e in
    let k : IsParked m y.thread.0 y = parked_is m y.thread.0 y i.parked in
    let own : process_of m y.thread.0 ≡ p = of_pool (bound_of m y.thread.0) (ap (is_pool (Common (pid p))) (sym k.pool) ∙ i.of_pool) in
    ap (is_unborn_process m) (sym own) ∙ not_unborn m y.thread.0 h (λ z. grind (arith, k.idle))
  where
    of_pool : {q : ℕ} (b : Option ℕ) → is_pool (Common (pid p)) (pool_by q b) ≡ true → q ≡ p
    of_pool {q} None g = grind (arith, nat_tests)
    of_pool {q} (Some d) g = absurd (grind arith)

needs_begun :
    (before ungiven given : State) (p : ℕ) → IsConsistent ungiven → IsConsistent given →
    given.process_table.processes ≡ ungiven.process_table.processes → needs_spare before ungiven given p ≡ true →
    is_unborn_process given p ≡ false
needs_begun before ungiven given p h k same e =
    go (has_common_door given.doors p) refl (is_some (pick ungiven (Common (pid p)))) refl
  where
    no_and : (b : Bool) → (not b && false) || false ≡ false
    no_and true = refl
    no_and false = refl

    go :
        (a : Bool) → has_common_door given.doors p ≡ a → (b : Bool) → is_some (pick ungiven (Common (pid p))) ≡ b →
        is_unborn_process given p ≡ false
    go true f b g = door_begun given p k f
    go false f true g =
        ap (λ xs. is_unborn_in (at_number xs p)) same ∙ idle_begun ungiven p (pick ungiven (Common (pid p))) h refl g
    go false f false g = absurd (true≢false (sym e ∙ ap₂ (λ a b. (not (has_common_door before.doors p) && a) || (b && is_none (pick given (Common (pid p))))) f g ∙ no_and (has_common_door before.doors p)))

-- what starting keeps besides, with the processes as they are after giving
record Started (m given n : State) : Type 0 where
  gave : Gave m n
  processes : n.process_table.processes ≡ given.process_table.processes

processes-give : (m : State) → (give m).process_table.processes ≡ m.process_table.processes
processes-give m = give-all (λ n. n.process_table.processes ≡ m.process_table.processes) one m refl
  where
    one : KeptByGiving (λ n. n.process_table.processes ≡ m.process_table.processes)
    one n w x p e = go w.item
      where
        go : (i : Item) → (give_one n i x.thread.0).process_table.processes ≡ m.process_table.processes
        go (item.Call c) = processes-change_thread n.process_table x.thread.0 (thread_at_state (is.Given (item.Call c))) ∙ e
        go (item.Notice c) = processes-change_thread n.process_table x.thread.0 (thread_at_state (is.Given (item.Notice c))) ∙ e

give_and_start_does : (before m : State) → IsConsistent m → Gave m (give_and_start before m)
give_and_start_does before m h =
    (start_spares-needed (Started m (give m)) before m (give m) one (record { gave = give_does m h; processes = refl })).gave
  where
    one : KeptByNeeded (Started m (give m)) before m (give m)
    one n t d needs s =
        let begun : is_unborn_process n (process_of n t) ≡ false =
        ap (λ xs. is_unborn_in (at_number xs (process_of n t))) s.processes
        ∙ needs_begun before m (give m) (process_of n t) h (give_does m h).consistent (processes-give m) needs
        in
        record {
          gave = gave_then m n (with_state n t is.Running) s.gave (start_does n t s.gave.consistent d begun);
          processes = processes-change_thread n.process_table t (thread_at_state is.Running) ∙ s.processes;
        }

-- and ports are told, which changes nothing else
tell_gave : (m n : State) → Gave m n → Gave m (tell n)
tell_gave m n g =
    record {
      consistent = channels_consistent n (tell n).channels g.consistent;
      arrows = g.arrows;
      notices = g.notices;
      serves = g.serves;
      busy = g.busy;
      done = g.done;
      lost = g.lost;
      doors = g.doors;
    }

-- after the making of notices
pub settle_gave : (before m : State) → IsConsistent (make_notices before m) → Gave (make_notices before m) (settle before m)
settle_gave before m h =
    let f : Gave (make_notices before m) (fail_returns (make_notices before m)) = fail_returns_does (make_notices before m) h in
    gave_then (make_notices before m) (fail_returns (make_notices before m)) (settle before m) f
    (tell_gave (fail_returns (make_notices before m)) (settle_pools before m)
    (give_and_start_does before (fail_returns (make_notices before m)) f.consistent))

-- and so none is left that lost its door
settle_none_lost : (before m : State) → IsConsistent (make_notices before m) → (t : ℕ) → has_lost_door (settle before m) t ≡ false
settle_none_lost before m h t =
    (give_and_start_does before (fail_returns (make_notices before m)) (fail_returns_does (make_notices before m) h).consistent).lost t
    (has_lost_door-fail_returns (make_notices before m) t)

-- the doors of idle threads are valid where none has lost its door, and conversely

pub idle_valid_of :
    (m : State) → ((t : ℕ) → has_lost_door m t ≡ false) → (t d since : ℕ) → (core m).role t ≡ is.Idle since → (core m).bound t ≡ Some d →
    is_valid_in ((core m).door d) ≡ true
idle_valid_of m h t d since e f = grind (arith, h t)

pub no_lost_door : (m : State) → Invariant m → (t : ℕ) → has_lost_door m t ≡ false
no_lost_door m h t = grind (arith, h.idle_valid t)

-- no pool is left with a waiting item and an idle thread

-- n follows m, in an event that began in the state before: first notices are made, which change nothing else
pub record Settles (before m n : State) : Type 0 where
  pub gave : Gave (record m { notice_list = (make_notices before m).notice_list }) n
  pub none_lost : (t : ℕ) → has_lost_door n t ≡ false
  pub given_out : All (λ w. pick n (pool_of n w.door) ≡ None) (waiting_items n)
  pub told : AreTold n

pub settle_does : (before m : State) → IsConsistent m → Settles before m (settle before m)
settle_does before m h =
    let made : Makes m (make_notices before m) = make_notices_does before m h in
    record {
      gave = subst (λ (k : State). Gave k (settle before m)) made.alone (settle_gave before m made.consistent);
      none_lost = settle_none_lost before m made.consistent;
      given_out = all_given_out before m (calls_ascend m h) (notices_ascend m h);
      told = tells (settle_pools before m);
    }
