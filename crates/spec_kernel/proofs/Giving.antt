-- Once a kernel has settled, nothing waits in a pool that has an idle thread.
use Rattle.std.proofs.Common.{◌≡◌, ◌+◌, ◌≤◌, ℕ, zero, suc, ◌==◌, ◌&&◌, Bool, true, false, if◌then◌else◌, nat_le, List, [], ◌∷◌, Option, None, Some, option_map, length, filter, count_by, refl, sym, subst, eq-or-lt_of_le, ap, ◌∙◌, ◌⊎◌, inl, inr, ⊎_elim, arith}
use Rattle.std.specs.List.{All}
use Rattle.std.proofs.lemmas.Bool.Decides.{nat_tests}
use Rattle.std.proofs.lemmas.List.Sums.{length-filter}
use Rattle.std.proofs.lemmas.List.Elements.{All-nil, All-cons}
use Rattle.spec_records.proofs.NumberedLists.{ascending-change_first, ascending-push}
use Rattle.spec_kernel.specs.Types.{Call, Item, Notice, Parked, Pool, Thread, Waiting}
use Rattle.dk_base.specs.declared.object.Item.TheVariants as item
use Rattle.spec_records.specs.declared.pool.Pool.TheVariants.{Common, Private}
use Rattle.spec_records.specs.declared.record.ThreadState.TheVariants as is
use Rattle.spec_records.specs.declared.record.CallStage.TheVariants as stage
use Rattle.spec_records.specs.declared.record.NoticeStage.TheVariants as notice
use Rattle.spec_records.specs.Words.{CallTree, IsAscending, NoticeList, ProcessTable, at_stage, better_parked, call_number, give_thread, is_pool, is_queued, is_queued_as, is_queued_call, is_queued_in, is_waiting_notice, is_waiting_notice_as, later_parked, new_notice, notice_at, notice_number, parked_at, parked_thread, pick_among, pick_parked, thread_at, thread_at_state, tid, waiting_call}
use Rattle.spec_kernel.specs.State.{State, calls_waiting, pick, pool_of, waiting_items, now}
use Rattle.spec_kernel.specs.Notices.{make_notices}
use Rattle.spec_kernel.specs.Settle.{fail_returns, give, give_and_start, give_each, give_one, give_to, settle, start_spares}
use Rattle.spec_kernel.proofs.Settling.{KeptByMaking, fail_returns-alone, make_notices-all, pick-start_spares, start_spares-alone}
use Rattle.spec_kernel.proofs.Threads.{map-change_thread, thread_at-change_thread}
use Rattle.spec_records.proofs.Lists.{numbered_within, same_length}
pub use Rattle.spec_kernel.proofs.Places.{IsIn}
use Rattle.spec_kernel.proofs.Waits.{IsWaiting, Passes, from_filter, from_waits, in_waits-notice}
pub use Rattle.spec_kernel.proofs.Waits.{in_waits}
use Rattle.spec_kernel.proofs.GivenLists.{given_gone, given_stays}

-- the numbers of calls go up, and those of notices, and none is above how many were made: so it is where each has that of its
-- place, and still where some are forgotten

abbrev pub AreCallsAscending : CallTree → Type 0
AreCallsAscending tree = IsAscending call_number 0 tree.made tree.calls

abbrev pub AreNoticesAscending : NoticeList → Type 0
AreNoticesAscending list = IsAscending notice_number 0 list.made list.notices

abbrev given_call : ℕ → Call → Call
given_call u r = at_stage (stage.Given (tid u)) r

abbrev given_notice : ℕ → Notice → Notice
given_notice u n = notice_at (notice.Given (tid u)) n

-- idle threads get fewer

record FewerIdle (bindings : List (Option ℕ)) (before after : ProcessTable) : Type 0 where
  threads : length after.threads ≡ length before.threads
  parked : (t : ℕ) → (parked_at after bindings t ≡ parked_at before bindings t) ⊎ (parked_at after bindings t ≡ None)

later_some : (best : Option Parked) (x : Parked) → later_parked best x ≡ None → ⊥
later_some None x e = cc
later_some (Some b) x e = go (nat_le b.since x.since) e
  where
    go : (test : Bool) → (if test then Some x else Some b) ≡ None → ⊥
    go true e = cc
    go false e = cc

fewer_better :
    (pool : Pool) (best best' o o' : Option Parked) → (best ≡ None → best' ≡ None) → (o' ≡ o) ⊎ (o' ≡ None) →
    better_parked pool best o ≡ None → better_parked pool best' o' ≡ None
fewer_better pool best best' o o' ih (inr none) e = ap (better_parked pool best') none ∙ ih (go o e)
  where
    at : (x : Parked) (b : Bool) → (if b then later_parked best x else best) ≡ None → best ≡ None
    at x true e = absurd (later_some best x e)
    at x false e = e

    go : (o : Option Parked) → better_parked pool best o ≡ None → best ≡ None
    go None e = e
    go (Some x) e = at x (is_pool pool x.pool) e
fewer_better pool best best' o o' ih (inl same) e = ap (better_parked pool best') same ∙ go o e
  where
    at : (x : Parked) (b : Bool) → (if b then later_parked best x else best) ≡ None → (if b then later_parked best' x else best') ≡ None
    at x true e = absurd (later_some best x e)
    at x false e = ih e

    go : (o : Option Parked) → better_parked pool best o ≡ None → better_parked pool best' o ≡ None
    go None e = ih e
    go (Some x) e = at x (is_pool pool x.pool) e

fewer_pick_among :
    (bindings : List (Option ℕ)) (before after : ProcessTable) (pool : Pool) (k : ℕ) → FewerIdle bindings before after →
    pick_among before bindings pool k ≡ None → pick_among after bindings pool k ≡ None
fewer_pick_among bindings before after pool zero h e = refl
fewer_pick_among bindings before after pool (suc k) h e =
    fewer_better pool
    (pick_among before bindings pool k)
    (pick_among after bindings pool k)
    (parked_at before bindings (suc k))
    (parked_at after bindings (suc k))
    (fewer_pick_among bindings before after pool k h)
    (h.parked (suc k))
    e

fewer_pick :
    (bindings : List (Option ℕ)) (before after : ProcessTable) (pool : Pool) → FewerIdle bindings before after →
    pick_parked before bindings pool ≡ None → pick_parked after bindings pool ≡ None
fewer_pick bindings before after pool h e =
    ap (pick_among after bindings pool) h.threads
    ∙ fewer_pick_among bindings before after pool (length before.threads) h e

-- a thread that is given something is idle no more
given_fewer : (bindings : List (Option ℕ)) (table : ProcessTable) (u : ℕ) (i : Item) → FewerIdle bindings table (give_thread table u i)
given_fewer bindings table u i =
    record {
      threads =
          same_length (λ (x : Thread). x.number) (give_thread table u i).threads table.threads
          (map-change_thread (λ (x : Thread). x.number) table u (thread_at_state (is.Given i)) (λ x. refl));
      parked = λ t. rw (thread_at-change_thread table u t (thread_at_state (is.Given i))) (at t (t == u) (thread_at table u));
    }
  where
    at :
        (t : ℕ) (b : Bool) (o : Option Thread) →
        (parked_thread bindings t (if b then option_map (thread_at_state (is.Given i)) o else thread_at table t) ≡ parked_at table bindings t)
        ⊎ (parked_thread bindings t (if b then option_map (thread_at_state (is.Given i)) o else thread_at table t) ≡ None)
    at t true None = inr refl
    at t true (Some x) = inr refl
    at t false o = inl refl

-- what giving leaves, by what is given

give_one-pool : (m : State) (i : Item) (u d : ℕ) → pool_of (give_one m i u) d ≡ pool_of m d
give_one-pool m (item.Call c) u d = refl
give_one-pool m (item.Notice n) u d = refl

give_one-pick : (m : State) (i : Item) (u : ℕ) (pool : Pool) → pick m pool ≡ None → pick (give_one m i u) pool ≡ None
give_one-pick m (item.Call c) u pool e =
    fewer_pick m.bindings m.process_table (give_thread m.process_table u (item.Call c)) pool
    (given_fewer m.bindings m.process_table u (item.Call c))
    e
give_one-pick m (item.Notice n) u pool e =
    fewer_pick m.bindings m.process_table (give_thread m.process_table u (item.Notice n)) pool
    (given_fewer m.bindings m.process_table u (item.Notice n))
    e

call_stays :
    (m : State) (i : Item) (u : ℕ) (r : Call) → is_queued r.stage ≡ true → IsIn r (give_one m i u).call_tree.calls →
    IsIn r m.call_tree.calls
call_stays m (item.Call c) u r q h = given_stays call_number is_queued_call (given_call u) (λ x. refl) c m.call_tree.calls r q h
call_stays m (item.Notice n) u r q h = h

waiting_notice_stays :
    (m : State) (i : Item) (u : ℕ) (n : Notice) → is_waiting_notice n ≡ true → IsIn n (give_one m i u).notice_list.notices →
    IsIn n m.notice_list.notices
waiting_notice_stays m (item.Call c) u n q h = h
waiting_notice_stays m (item.Notice k) u n q h = given_stays notice_number is_waiting_notice (given_notice u) (λ x. refl) k m.notice_list.notices n q h

item_stays : (m : State) (i : Item) (u : ℕ) (v : Waiting) → IsIn v (waiting_items (give_one m i u)) → IsIn v (waiting_items m)
item_stays m i u v h = go (from_waits (give_one m i u) v h)
  where
    go : IsWaiting (give_one m i u) v → IsIn v (waiting_items m)
    go (inl (r, k)) =
        subst (λ w. IsIn w (waiting_items m)) (sym k.same) (in_waits m r k.queued (call_stays m i u r k.queued k.is_in))
    go (inr (n, k)) =
        subst (λ w. IsIn w (waiting_items m)) (sym k.same)
        (in_waits-notice m n k.waiting (waiting_notice_stays m i u n k.waiting k.is_in))

-- some of the items, which are in order as far as they go
module _ (Asked : Item → Type 0) where
  record IsDistinct (m : State) : Type 0 where
    calls : AreCallsAscending m.call_tree
    notices : (n : ℕ) → Asked (item.Notice n) → AreNoticesAscending m.notice_list

  given_distinct : (m : State) (i : Item) (u : ℕ) → IsDistinct m → IsDistinct (give_one m i u)
  given_distinct m (item.Call c) u h =
      record {
        calls = ascending-change_first call_number (given_call u) (λ x. refl) (is_queued_as c) m.call_tree.calls 0 m.call_tree.made h.calls;
        notices = h.notices;
      }
  given_distinct m (item.Notice n) u h =
      record {
        calls = h.calls;
        notices =
            λ k a.
            ascending-change_first notice_number (given_notice u) (λ x. refl) (is_waiting_notice_as n) m.notice_list.notices 0
            m.notice_list.made (h.notices k a);
      }

  -- what was given waits no more
  item_gone :
      (m : State) (v : Waiting) (u : ℕ) → IsDistinct m → Asked v.item → IsIn v (waiting_items (give_one m v.item u)) → ⊥
  item_gone m v u h a i = go (from_waits (give_one m v.item u) v i)
    where
      go : IsWaiting (give_one m v.item u) v → ⊥
      go (inl (r, k)) =
          given_gone call_number is_queued_call (given_call u) (λ x. refl) r.number 0 m.call_tree.made m.call_tree.calls r h.calls k.queued refl
          (subst (λ (w : Waiting). IsIn r (give_one m w.item u).call_tree.calls) k.same k.is_in)
      go (inr (n, k)) =
          given_gone notice_number is_waiting_notice (given_notice u) (λ x. refl) n.number 0 m.notice_list.made m.notice_list.notices n
          (h.notices n.number (subst (λ (w : Waiting). Asked w.item) k.same a))
          k.waiting refl
          (subst (λ (w : Waiting). IsIn n (give_one m w.item u).notice_list.notices) k.same k.is_in)

  -- each of them that waits stands in the list, or no thread is idle in its pool
  abbrev IsPending : State → List Waiting → Type 0
  IsPending m ws =
      (v : Waiting) → Asked v.item → IsIn v (waiting_items m) → IsIn v ws ⊎ (pick m (pool_of m v.door) ≡ None)

  pending_given :
      (m : State) (w : Waiting) (ws : List Waiting) (u : ℕ) → IsDistinct m → IsPending m (w ∷ ws) →
      IsPending (give_one m w.item u) ws
  pending_given m w ws u d h v a k = go (h v a (item_stays m w.item u v k))
    where
      gone : v ≡ w → ⊥
      gone e = item_gone m v u d a (subst (λ (x : Waiting). IsIn v (waiting_items (give_one m x.item u))) (sym e) k)

      go :
          ((v ≡ w) ⊎ IsIn v ws) ⊎ (pick m (pool_of m v.door) ≡ None) →
          IsIn v ws ⊎ (pick (give_one m w.item u) (pool_of (give_one m w.item u) v.door) ≡ None)
      go (inl (inl e)) = absurd (gone e)
      go (inl (inr i)) = inl i
      go (inr e) =
          inr
          (ap (pick (give_one m w.item u)) (give_one-pool m w.item u v.door)
          ∙ give_one-pick m w.item u (pool_of m v.door) e)

  give_to_distinct : (m : State) (w : Waiting) (o : Option Parked) → IsDistinct m → IsDistinct (give_to m w o)
  give_to_distinct m w None d = d
  give_to_distinct m w (Some x) d = given_distinct m w.item x.thread.0 d

  give_to_pending :
      (m : State) (w : Waiting) (ws : List Waiting) (o : Option Parked) → pick m (pool_of m w.door) ≡ o → IsDistinct m →
      IsPending m (w ∷ ws) → IsPending (give_to m w o) ws
  give_to_pending m w ws (Some x) e d h = pending_given m w ws x.thread.0 d h
  give_to_pending m w ws None e d h = λ v a k. go v (h v a k)
    where
      go :
          (v : Waiting) → ((v ≡ w) ⊎ IsIn v ws) ⊎ (pick m (pool_of m v.door) ≡ None) →
          IsIn v ws ⊎ (pick m (pool_of m v.door) ≡ None)
      go v (inl (inl f)) = inr (ap (λ (z : Waiting). pick m (pool_of m z.door)) f ∙ e)
      go v (inl (inr i)) = inl i
      go v (inr f) = inr f

  give_each_pending : (m : State) (ws : List Waiting) → IsDistinct m → IsPending m ws → IsPending (give_each m ws) []
  give_each_pending m [] d h = h
  give_each_pending m (w ∷ ws) d h =
      give_each_pending
      (give_to m w (pick m (pool_of m w.door)))
      ws
      (give_to_distinct m w (pick m (pool_of m w.door)) d)
      (give_to_pending m w ws (pick m (pool_of m w.door)) refl d h)

  given_out :
      (m : State) → IsDistinct m → (v : Waiting) → Asked v.item → IsIn v (waiting_items (give m)) →
      pick (give m) (pool_of (give m) v.door) ≡ None
  given_out m d v a k =
      ⊎_elim (λ none. absurd none) (λ e. e) (give_each_pending m (waiting_items m) d (λ w b i. inl i) v a k)

-- what settling comes to

abbrev IsCall : Item → Type 0
IsCall (item.Call c) = Unit {0}
IsCall (item.Notice n) = ⊥

-- threads that fail leave calls and notices as they are
failed_same : (m : State) → ((fail_returns m).call_tree ≡ m.call_tree) × ((fail_returns m).notice_list ≡ m.notice_list)
failed_same m =
    (ap (λ (n : State). n.call_tree) (fail_returns-alone m), ap (λ (n : State). n.notice_list) (fail_returns-alone m))

failed_distinct :
    (Asked : Item → Type 0) (m : State) → IsDistinct Asked m → IsDistinct Asked (fail_returns m)
failed_distinct Asked m h =
    record {
      calls = subst AreCallsAscending (sym (failed_same m).0) h.calls;
      notices =
          λ n a. subst AreNoticesAscending (sym (failed_same m).1) (h.notices n a);
    }

-- and a notice that is made has a number of its own
made_distinct :
    (Asked : Item → Type 0) (before m : State) → IsDistinct Asked m → IsDistinct Asked (make_notices before m)
made_distinct Asked before m h = make_notices-all (IsDistinct Asked) before one m h
  where
    one : KeptByMaking (IsDistinct Asked) before
    one n d due k =
        record { calls = k.calls; notices = λ c a. ascending-push notice_number n.notice_list.notices 0 n.notice_list.made (new_notice (n.notice_list.made + 1) (now n) d) (omega arith) refl (k.notices c a) }

-- spares that start leave what waits, and what each pool has
started_items : (before ungiven given : State) → waiting_items (start_spares before ungiven given) ≡ waiting_items given
started_items before ungiven given = ap waiting_items (start_spares-alone before ungiven given)

started_pool :
    (before ungiven given : State) (d : ℕ) → pool_of (start_spares before ungiven given) d ≡ pool_of given d
started_pool before ungiven given d = ap (λ n. pool_of n d) (start_spares-alone before ungiven given)

given_and_started_out :
    (Asked : Item → Type 0) (before m : State) → IsDistinct Asked m → (v : Waiting) → Asked v.item →
    IsIn v (waiting_items (give_and_start before m)) →
    pick (give_and_start before m) (pool_of (give_and_start before m) v.door) ≡ None
given_and_started_out Asked before m h v a k =
    pick-start_spares before m (give m) (pool_of (give_and_start before m) v.door)
    ∙ ap (pick (give m)) (started_pool before m (give m) v.door)
    ∙ given_out Asked m h v a (subst (IsIn v) (started_items before m (give m)) k)

settled_out :
    (Asked : Item → Type 0) (before m : State) → IsDistinct Asked m → (v : Waiting) → Asked v.item →
    IsIn v (waiting_items (settle before m)) → pick (settle before m) (pool_of (settle before m) v.door) ≡ None
settled_out Asked before m h v a k =
    given_and_started_out Asked before (fail_returns (make_notices before m))
    (failed_distinct Asked (make_notices before m) (made_distinct Asked before m h))
    v a k

pub no_idle_for :
    (before m : State) → AreCallsAscending m.call_tree → (r : Call) → is_queued r.stage ≡ true →
    IsIn r (settle before m).call_tree.calls → pick (settle before m) (pool_of (settle before m) r.door) ≡ None
no_idle_for before m a r q h =
    settled_out IsCall before m (record { calls = a; notices = λ n none. absurd none }) (waiting_call r) tt
    (in_waits (settle before m) r q h)

-- where the numbers of notices ascend, that holds of all that waits
pub no_idle_for-item :
    (before m : State) → AreCallsAscending m.call_tree → AreNoticesAscending m.notice_list → (v : Waiting) →
    IsIn v (waiting_items (settle before m)) → pick (settle before m) (pool_of (settle before m) v.door) ≡ None
no_idle_for-item before m a o v h = settled_out (λ i. Unit {0}) before m (record { calls = a; notices = λ n u. o }) v tt h

All-from_in : {X : Type 0} (P : X → Type 0) (xs : List X) → ((x : X) → IsIn x xs → P x) → All P xs
All-from_in P [] h = All-nil P
All-from_in P (x ∷ xs) h = All-cons P x xs (h x (inl refl)) (All-from_in P xs (λ y k. h y (inr k)))

pub all_given_out :
    (before m : State) → AreCallsAscending m.call_tree → AreNoticesAscending m.notice_list →
    All (λ w. pick (settle before m) (pool_of (settle before m) w.door) ≡ None) (waiting_items (settle before m))
all_given_out before m a o =
    All-from_in (λ w. pick (settle before m) (pool_of (settle before m) w.door) ≡ None) (waiting_items (settle before m))
    (no_idle_for-item before m a o)

some_pass : {X : Type 0} (p : X → Bool) (xs : List X) → (filter p xs ≡ []) ⊎ ((x : X) × Passes p xs x)
some_pass p xs = go (filter p xs) refl
  where
    go : (ys : List _) → filter p xs ≡ ys → (filter p xs ≡ []) ⊎ ((x : _) × Passes p xs x)
    go [] e = inl e
    go (y ∷ ys) e = inr (y, from_filter p xs y (subst (IsIn y) (sym e) (inl refl)))

some_counted : {X : Type 0} (p : X → Bool) (xs : List X) → (count_by p xs ≡ 0) ⊎ ((x : X) × Passes p xs x)
some_counted p xs = ⊎_elim (λ e. inl (sym (length-filter p xs) ∙ ap length e)) inr (some_pass p xs)

pub same_pool : (p q : Pool) → is_pool p q ≡ true → p ≡ q
same_pool (Common p) (Common q) e = ap Common (grind (arith, nat_tests))
same_pool (Private p) (Private q) e = ap Private (grind (arith, nat_tests))
same_pool (Common p) (Private q) e = cc
same_pool (Private p) (Common q) e = cc

pub no_pool_has_both :
    (before m : State) → AreCallsAscending m.call_tree → (pool : Pool) →
    (calls_waiting (settle before m) pool ≡ 0) ⊎ (pick (settle before m) pool ≡ None)
no_pool_has_both before m a pool = go (settle before m) (no_idle_for before m a)
  where
    first : (b c : Bool) → b && c ≡ true → b ≡ true
    first true c e = refl
    first false c e = e

    second : (b c : Bool) → b && c ≡ true → c ≡ true
    second true c e = e
    second false c e = cc

    go :
        (n : State) →
        ((r : Call) → is_queued r.stage ≡ true → IsIn r n.call_tree.calls → pick n (pool_of n r.door) ≡ None) →
        (calls_waiting n pool ≡ 0) ⊎ (pick n pool ≡ None)
    go n none = ⊎_elim inl (λ h. inr (idle h)) (some_counted (is_queued_in n.doors pool) n.call_tree.calls)
      where
        idle : (r : Call) × Passes (is_queued_in n.doors pool) n.call_tree.calls r → pick n pool ≡ None
        idle (r, k) =
            ap (pick n)
            (same_pool pool (pool_of n r.door) (second (is_queued r.stage) (is_pool pool (pool_of n r.door)) k.passes))
            ∙ none r (first (is_queued r.stage) (is_pool pool (pool_of n r.door)) k.passes) k.is_in

-- whatever is idle in a pool would be picked

better_none :
    (pool : Pool) (best o : Option Parked) → better_parked pool best o ≡ None →
    (best ≡ None) × ((x : Parked) → o ≡ Some x → is_pool pool x.pool ≡ false)
better_none pool best None e = (e, λ x f. cc)
better_none pool best (Some y) e = go (is_pool pool y.pool) refl e
  where
    go :
        (b : Bool) → is_pool pool y.pool ≡ b → (if b then later_parked best y else best) ≡ None →
        (best ≡ None) × ((x : Parked) → Some y ≡ Some x → is_pool pool x.pool ≡ false)
    go true f e = absurd (later_some best y e)
    go false f e = (e, λ x g. let k : y ≡ x = cc in subst (λ (z : Parked). is_pool pool z.pool ≡ false) k f)

none_idle_among :
    (table : ProcessTable) (bindings : List (Option ℕ)) (pool : Pool) (n t : ℕ) (x : Parked) →
    pick_among table bindings pool n ≡ None → 1 ≤ t → t ≤ n → parked_at table bindings t ≡ Some x → is_pool pool x.pool ≡ false
none_idle_among table bindings pool zero t x e low high p = absurd (omega arith)
none_idle_among table bindings pool (suc n) t x e low high p =
    ⊎_elim last (λ l. none_idle_among table bindings pool n t x parts.0 low (omega arith) p) (eq-or-lt_of_le high)
  where
    parts :
        (pick_among table bindings pool n ≡ None)
        × ((y : Parked) → parked_at table bindings (suc n) ≡ Some y → is_pool pool y.pool ≡ false)
    parts = better_none pool (pick_among table bindings pool n) (parked_at table bindings (suc n)) e

    last : t ≡ suc n → is_pool pool x.pool ≡ false
    last f = parts.1 x (ap (parked_at table bindings) (sym f) ∙ p)

-- so where a pool has no pick, no thread is idle in it
pub none_idle :
    (m : State) (pool : Pool) (t : ℕ) (x : Parked) → pick m pool ≡ None → parked_at m.process_table m.bindings t ≡ Some x →
    is_pool pool x.pool ≡ false
none_idle m pool t x e p = go (thread_at m.process_table t) refl p
  where
    go : (o : Option Thread) → thread_at m.process_table t ≡ o → parked_thread m.bindings t o ≡ Some x → is_pool pool x.pool ≡ false
    go None f q = cc
    go (Some y) f q =
        let w : (1 ≤ t) × (t ≤ length m.process_table.threads) = numbered_within m.process_table.threads t y f in
        none_idle_among m.process_table m.bindings pool (length m.process_table.threads) t x e w.0 w.1 p
