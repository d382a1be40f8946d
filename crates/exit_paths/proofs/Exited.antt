-- An exit path as a whole: room is made, items leave their queues, threads meet their fates, and calls are left.
use Rattle.std.proofs.Common.{◌≡◌, ◌⊎◌, inl, inr, ℕ, ◌+◌, ◌<◌, ◌≤◌, ◌==◌, ◌&&◌, ◌||◌, not, Bool, true, false, if◌then◌else◌, List, Option, None, Some, IfSome, option_map, is_some, count_by, find, length, slice_get, refl, sym, ap, ◌∙◌, subst, subst₂, arith}
use Rattle.std.proofs.lemmas.Bool.Decides.{nat_tests}
use Rattle.std.proofs.lemmas.List.{length-map}
use Rattle.dk_base.specs.declared.limits.TheConstants.{THREADS_MAX}
use Rattle.dk_base.specs.declared.number.Tid.{Tid}
use Rattle.spec_records.specs.declared.pool.TheConstants.{LOST_DOOR}
use Rattle.spec_records.specs.declared.record.CallStage.TheVariants as stage
use Rattle.spec_records.proofs.NumberedLists.{find-passes}
use Rattle.spec_records.specs.Words.{CallTree, Leaving, NoticeList, ProcessTable, bound_at, change_thread, is_entered_by, is_given_to, is_served_by, left_calls, left_notices, left_threads, kept_notices, live_calls, parked_at, process_in, thread_at, tid}
use Rattle.spec_kernel.specs.Types.{Call, CallStage, Door, Notice, Parked, Pool, Thread, Waiting}
use Rattle.call_tree.specs.Words.{AreSound, is_called_by, is_given}
use Rattle.server_pool.specs.Words.{ParkedBefore, PoolsValue, pool_at, stack_in, thread_room_in}
use Rattle.law_pools.specs.Words.{Agrees, AgreesSomehow, HasPlaces, pool_by}
use Rattle.spec_kernel.proofs.Places.{place_of}
use Rattle.law_pools.proofs.Parked.{all_in}
use Rattle.law_pools.proofs.Readers.{there_is}
use Rattle.law_pools.proofs.Stacks.{own_pool_there}
use Rattle.exit_paths.specs.Words.{AreTogether, CanExit, CanParkAgain, DropsTransit, HasExited, HasNoLessRoom, HaveLeft, HoldsSame, IsUntaken, KeepsItems, Kept, TellsUntaken, became_idle, became_ready, deserted_at_stage, deserted_in_call, is_given_in, own_pool_in, parks_again, parks_in, serves_given, threads_where}
use Rattle.exit_paths.specs.declared.fates.Deserted.{Deserted}
use Rattle.exit_paths.specs.declared.fates.Desertion.TheVariants.{IsCancelled, Parks}
use Rattle.exit_paths.specs.declared.left.Left.{Left}
use Rattle.exit_paths.proofs.Alike.{agrees_same}
use Rattle.exit_paths.proofs.KeptTogether.{together_kept}
use Rattle.exit_paths.proofs.LeftThreads.{process_kept}
use Rattle.exit_paths.proofs.RoomLeft.{stack_left}
use Rattle.exit_paths.proofs.OneLeaves.{at_changed}
use Rattle.exit_paths.proofs.QueuesLeft.{GoAs, agrees_gone}
use Rattle.exit_paths.proofs.Untaken.{found_place}

-- a thread to which a call was given is not bound to the door that is lost

given_apart :
    {table : ProcessTable} {bindings : List (Option ℕ)} {doors : List Door} {calls : List Call} {notices : List Notice} → HasPlaces table bindings doors calls notices →
    (p : Call → Bool) (r : Call) (u : Tid) → find p calls ≡ Some r → r.stage ≡ stage.Given u → bound_at bindings u.0 ≡ Some LOST_DOOR → ⊥
given_apart {table} {bindings} {doors} {calls} placed p r u e given = let w = found_place p calls r e in placed.given_not_lost w.0 r u w.1 given

pub served_apart :
    {table : ProcessTable} {bindings : List (Option ℕ)} {doors : List Door} {calls : List Call} {notices : List Notice} → HasPlaces table bindings doors calls notices →
    (t : ℕ) → serves_given calls t ≡ true → bound_at bindings t ≡ Some LOST_DOOR → ⊥
served_apart {table} {bindings} {doors} {calls} placed t given lost = go (find (is_served_by t) calls) refl given
  where
    same : (u k : ℕ) (a : Bool) → (a && ((u == k) || false)) ≡ true → u ≡ k
    same u k a e = grind (arith, nat_tests)

    at : (r : Call) → find (is_served_by t) calls ≡ Some r → (s : CallStage) → r.stage ≡ s → is_given s ≡ true → ⊥
    at r e (stage.Given u) f g =
        let serves : (not r.abandoned && ((u.0 == t) || false)) ≡ true = ap (λ s. not r.abandoned && (is_given_to t s || is_entered_by t s)) (sym f) ∙ find-passes (is_served_by t) calls r e in
        given_apart placed (is_served_by t) r u e f (ap (bound_at bindings) (same u.0 t (not r.abandoned) serves) ∙ lost)
    at r e _ f g = cc

    go : (o : Option Call) → find (is_served_by t) calls ≡ o → is_given_in o ≡ true → ⊥
    go None e g = cc
    go (Some r) e g = at r e r.stage refl g

deserted_apart :
    {table : ProcessTable} {bindings : List (Option ℕ)} {doors : List Door} {calls : List Call} {notices : List Notice} → HasPlaces table bindings doors calls notices →
    (t : ℕ) (d : Deserted) → Some d ≡ deserted_in_call (find (is_called_by t) calls) → parks_again d.desertion ≡ true → bound_at bindings d.server.0 ≡ Some LOST_DOOR → ⊥
deserted_apart {table} {bindings} {doors} {calls} placed t d is parks lost = go (find (is_called_by t) calls) refl is
  where
    cancelled : (b : Bool) (u : Tid) → Some d ≡ (if b then None else Some (record { server = u; desertion = IsCancelled })) → ⊥
    cancelled true u e = cc
    cancelled false u e =
        let same : d ≡ record { server = u; desertion = IsCancelled } = cc in
        let k : true ≡ false = sym parks ∙ ap (λ (x : Deserted). parks_again x.desertion) same in
        cc

    at : (r : Call) → find (is_called_by t) calls ≡ Some r → (s : CallStage) → r.stage ≡ s → Some d ≡ deserted_at_stage r.no_cancel s → ⊥
    at r e (stage.Given u) f g =
        let same : d ≡ record { server = u; desertion = Parks } = cc in
        given_apart placed (is_called_by t) r u e f (ap (λ (x : Deserted). bound_at bindings x.server.0) (sym same) ∙ lost)
    at r e (stage.Entered u) f g = cancelled r.no_cancel u g
    at r e _ f g = cc

    go : (o : Option Call) → find (is_called_by t) calls ≡ o → Some d ≡ deserted_in_call o → ⊥
    go None e g = cc
    go (Some r) e g = at r e r.stage refl g

-- before threads leave

module _
    {now : ℕ} {doors : List Door} {k : Kept} {p q : PoolsValue} {gone : Pool → Waiting → Bool} {who : Leaving}
    (can : CanExit now doors k) (same : HoldsSame k.pools p) (left : HaveLeft gone p q) (goes : GoAs who doors k.calls.tree.calls can.list.notices gone) where
  held : Agrees now k.procs doors k.calls.tree can.list p
  held = agrees_same can.agreed same

  pub somehow : AgreesSomehow now k.procs q
  somehow =
      record {
        doors = doors;
        tree = live_calls (left_calls who k.calls.tree);
        list = kept_notices doors (left_notices who can.list);
        agrees = agrees_gone held left goes;
      }

  pub room_there :
      (t : ℕ) → (is_some (pool_at p (own_pool_in k.procs p.bindings t)) ≡ true → length k.procs.threads ≤ thread_room_in p (own_pool_in k.procs p.bindings t)) →
      is_some (thread_at k.procs t) ≡ true → serves_given k.calls.tree.calls t ≡ true → length k.procs.threads ≤ thread_room_in q (own_pool_in k.procs q.bindings t)
  room_there t made there given =
      let x : (x : Thread) × (thread_at k.procs t ≡ Some x) = there_is (thread_at k.procs t) there in
      let placed : HasPlaces k.procs p.bindings doors k.calls.tree.calls can.list.notices =
      subst (λ bs. HasPlaces k.procs bs doors k.calls.tree.calls can.list.notices) (sym same.bindings) can.placed in
      let pool : is_some (pool_at p (own_pool_in k.procs p.bindings t)) ≡ true =
      ap (λ o. is_some (pool_at p (pool_by (process_in o) (bound_at p.bindings t)))) x.1 ∙ own_pool_there held placed t x.0 x.1 (served_apart placed t given) in
      subst₂ (λ bs n. length k.procs.threads ≤ n) left.bindings (sym (left.threads (own_pool_in k.procs p.bindings t)) ∙ ap (λ bs. thread_room_in q (own_pool_in k.procs bs t)) (sym left.bindings))
      (made pool)

  pub earlier_there : (t : ℕ) (x : Parked) → parked_at k.procs q.bindings t ≡ Some x → x.since < now
  earlier_there t x e = can.earlier t x (ap (λ bs. parked_at k.procs bs t) (sym same.bindings ∙ sym left.bindings) ∙ e)

-- the whole

module _
    {now : ℕ} {doors : List Door} {k l : Kept} {p q : PoolsValue} {gone : Pool → Waiting → Bool} {who : Leaving}
    (same : HoldsSame k.pools p) (room : HasNoLessRoom k.pools p) (left : HaveLeft gone p q)
    (goes : (list : NoticeList) → Agrees now k.procs doors k.calls.tree list k.pools → GoAs who doors k.calls.tree.calls list.notices gone)
    (threads : l.procs ≡ left_threads who now k.calls.tree.calls k.procs)
    (agreed : (tree : CallTree) (list : NoticeList) → Agrees now k.procs doors tree list q → Agrees now l.procs doors tree list l.pools)
    (keeps : KeepsItems q l.pools) (sound : AreSound k.calls.tree) (calls : l.calls.tree ≡ live_calls (left_calls who k.calls.tree)) (spare : k.calls.spare ≤ l.calls.spare) where
  stacks_left :
      (CanExit now doors k × (length k.procs.threads ≤ THREADS_MAX)) ⊎ ((pool : Pool) → stack_in l.pools pool ≡ stack_in k.pools pool) → (pool : Pool) →
      length (stack_in l.pools pool) ≤ length (stack_in k.pools pool) + count_by (parks_in l.procs l.pools.bindings pool) (threads_where (became_idle k.procs l.procs))
  stacks_left (inr stay) pool =
      let a : length (stack_in l.pools pool) ≡ length (stack_in k.pools pool) = ap length (stay pool) in omega arith
  stacks_left (inl may) pool =
      let can = may.0 in
      stack_left can.agreed
      (agreed (live_calls (left_calls who k.calls.tree)) (kept_notices doors (left_notices who can.list)) (agrees_gone (agrees_same can.agreed same) left (goes can.list can.agreed)))
      (λ t. ap (λ (x : ProcessTable). process_in (thread_at x t)) threads ∙ process_kept who now k.calls.tree.calls k.procs t)
      (keeps.bindings ∙ left.bindings ∙ same.bindings)
      (subst (λ (x : ProcessTable). length x.threads ≤ THREADS_MAX) (sym threads) (subst (λ n. n ≤ THREADS_MAX) (sym (length-map k.procs.threads _)) may.1)) pool

  -- threads park, as pools agree, or stacks stay
  pub exited :
      (CanExit now doors k × (length k.procs.threads ≤ THREADS_MAX)) ⊎ ((pool : Pool) → stack_in l.pools pool ≡ stack_in k.pools pool) →
      (told : Left) → DropsTransit k.calls.tree.calls l.calls.tree.calls told.dropped → told.parked ≡ threads_where (became_idle k.procs l.procs) →
      told.woken ≡ threads_where (became_ready k.calls.tree l.calls.tree) →
      ((list : NoticeList) → Agrees now k.procs doors k.calls.tree list k.pools → TellsUntaken who list.notices told.untaken) →
      IsUntaken who doors k.pools told.untaken → HasExited who now doors k l told
  exited stacks told dropped parked woken untaken all_untaken =
      record {
        threads = threads;
        calls = calls;
        agreed =
            λ list h.
            subst (λ (t : CallTree). Agrees now l.procs doors t (kept_notices doors (left_notices who list)) l.pools) (sym calls)
            (agreed (live_calls (left_calls who k.calls.tree)) (kept_notices doors (left_notices who list)) (agrees_gone (agrees_same h same) left (goes list h)));
        bindings = keeps.bindings ∙ left.bindings ∙ same.bindings;
        together = λ h. subst₂ AreTogether (sym threads) (sym calls) (together_kept h sound who now);
        dropped = dropped;
        parked = parked;
        woken = woken;
        untaken = untaken;
        all_untaken = all_untaken;
        spare = spare;
        items = λ pool. let a = room.items pool in let b = left.items pool in let c = keeps.items pool in omega (arith, a, b, c);
        door_room = let a = room.doors in let b = left.doors in let c = keeps.doors in omega (arith, a, b, c);
        threads_room = λ pool. room_left pool (ap (count_by (parks_in l.procs l.pools.bindings pool)) parked);
      }
    where
      room_left :
          (pool : Pool) → count_by (parks_in l.procs l.pools.bindings pool) told.parked ≡ count_by (parks_in l.procs l.pools.bindings pool) (threads_where (became_idle k.procs l.procs)) →
          thread_room_in k.pools pool ≤ thread_room_in l.pools pool + count_by (parks_in l.procs l.pools.bindings pool) told.parked
      room_left pool e =
          let a : thread_room_in k.pools pool ≤ thread_room_in p pool = room.threads pool in
          let b : thread_room_in q pool ≡ thread_room_in p pool = left.threads pool in
          let c : length (stack_in q pool) ≡ length (stack_in k.pools pool) = ap length (left.stacks pool ∙ same.stacks pool) in
          let d : thread_room_in q pool + length (stack_in q pool) ≤ thread_room_in l.pools pool + length (stack_in l.pools pool) = keeps.places pool in
          let f : length (stack_in l.pools pool) ≤ length (stack_in k.pools pool) + count_by (parks_in l.procs l.pools.bindings pool) (threads_where (became_idle k.procs l.procs)) = stacks_left stacks pool in
          omega arith

-- the thread that a caller leaves can park again, with the threads as they are when it does

own_pool_same :
    (table : ProcessTable) (bindings : List (Option ℕ)) (t k : ℕ) (f : Thread → Thread) → ((x : Thread) → (f x).process.0 ≡ x.process.0) →
    own_pool_in (change_thread table t f) bindings k ≡ own_pool_in table bindings k
own_pool_same table bindings t k f same = ap (λ p. pool_by p (bound_at bindings k)) (ap process_in (at_changed table t k f) ∙ go (thread_at table k))
  where
    here : (b : Bool) (x : Thread) → (if b then f x else x).process.0 ≡ x.process.0
    here true x = same x
    here false x = refl

    go : (o : Option Thread) → process_in (option_map (λ x. if k == t then f x else x) o) ≡ process_in o
    go None = refl
    go (Some x) = here (k == t) x

there_same : (table : ProcessTable) (t k : ℕ) (f : Thread → Thread) → is_some (thread_at (change_thread table t f) k) ≡ is_some (thread_at table k)
there_same table t k f = ap is_some (at_changed table t k f) ∙ go (thread_at table k)
  where
    go : (o : Option Thread) → is_some (option_map (λ x. if k == t then f x else x) o) ≡ is_some o
    go None = refl
    go (Some x) = refl

module _
    {now : ℕ} {doors : List Door} {k : Kept} {p q : PoolsValue} {gone : Pool → Waiting → Bool} {who : Leaving}
    (can : CanExit now doors k) (same : HoldsSame k.pools p) (left : HaveLeft gone p q) (goes : GoAs who doors k.calls.tree.calls can.list.notices gone) (u : ℕ)
    (room : is_some (pool_at p (own_pool_in k.procs p.bindings u)) ≡ true → 0 < thread_room_in p (own_pool_in k.procs p.bindings u)) where
  pub can_park : (bound_at k.pools.bindings u ≡ Some LOST_DOOR → ⊥) → is_some (thread_at k.procs u) ≡ true → CanParkAgain k.procs q u now
  can_park not_lost there =
      record {
        there = there;
        room = subst₂ (λ bs n. 0 < n) left.bindings (sym (left.threads own) ∙ ap (λ bs. thread_room_in q (own_pool_in k.procs bs u)) (sym left.bindings)) (room pool_there);
        later = all_in (λ x. ParkedBefore x y) (stack_in q (own_pool_in k.procs q.bindings u)) (λ x m. let r : (j : ℕ) × (slice_get (stack_in q (own_pool_in k.procs q.bindings u)) j ≡ Some x) = place_of x (stack_in q (own_pool_in k.procs q.bindings u)) m in inl (earlier_there can same left goes x.thread.0 x ((agreed.stacks (own_pool_in k.procs q.bindings u)).parked r.0 x r.1).parked));
      }
    where
      own : Pool
      own = own_pool_in k.procs p.bindings u

      y : Parked
      y = record { thread = tid u; pool = own_pool_in k.procs q.bindings u; since = now }

      agreed : Agrees now k.procs doors (live_calls (left_calls who k.calls.tree)) (kept_notices doors (left_notices who can.list)) q
      agreed = agrees_gone (agrees_same can.agreed same) left goes

      pool_there : is_some (pool_at p own) ≡ true
      pool_there =
          let x : (x : Thread) × (thread_at k.procs u ≡ Some x) = there_is (thread_at k.procs u) there in
          let placed : HasPlaces k.procs p.bindings doors k.calls.tree.calls can.list.notices =
          subst (λ bs. HasPlaces k.procs bs doors k.calls.tree.calls can.list.notices) (sym same.bindings) can.placed in
          ap (λ o. is_some (pool_at p (pool_by (process_in o) (bound_at p.bindings u)))) x.1 ∙ own_pool_there (agrees_same can.agreed same) placed u x.0 x.1 (λ e. not_lost (ap (λ bs. bound_at bs u) (sym same.bindings) ∙ e))

-- also where another thread was changed in what its pool does not read
pub park_changed :
    {table : ProcessTable} {v : PoolsValue} {u now : ℕ} (t : ℕ) (f : Thread → Thread) → ((x : Thread) → (f x).process.0 ≡ x.process.0) →
    (is_some (thread_at table u) ≡ true → CanParkAgain table v u now) → is_some (thread_at (change_thread table t f) u) ≡ true → CanParkAgain (change_thread table t f) v u now
park_changed {table} {v} {u} {now} t f same can there =
    let h = can (sym (there_same table t u f) ∙ there) in
    record { there = there; room = rw (own_pool_same table v.bindings t u f same) h.room; later = rw (own_pool_same table v.bindings t u f same) h.later }

-- the server of the caller's call, if it has one
pub server_parks :
    {now : ℕ} {doors : List Door} {k : Kept} {p q : PoolsValue} {gone : Pool → Waiting → Bool} {who : Leaving} (can : CanExit now doors k) →
    HoldsSame k.pools p → HaveLeft gone p q → GoAs who doors k.calls.tree.calls can.list.notices gone → (t : ℕ) (o : Option Deserted) →
    o ≡ deserted_in_call (find (is_called_by t) k.calls.tree.calls) →
    IfSome o (λ d. is_some (pool_at p (own_pool_in k.procs p.bindings d.server.0)) ≡ true → 0 < thread_room_in p (own_pool_in k.procs p.bindings d.server.0)) →
    IfSome o (λ d. parks_again d.desertion ≡ true → is_some (thread_at k.procs d.server.0) ≡ true → CanParkAgain k.procs q d.server.0 now)
server_parks can same left goes t None is room = room
server_parks can same left goes t (Some d) is room = λ parks. can_park can same left goes d.server.0 room (deserted_apart can.placed t d is parks)

pub server_parks_changed :
    (table : ProcessTable) (v : PoolsValue) (now t : ℕ) (f : Thread → Thread) → ((x : Thread) → (f x).process.0 ≡ x.process.0) → (o : Option Deserted) →
    IfSome o (λ d. parks_again d.desertion ≡ true → is_some (thread_at table d.server.0) ≡ true → CanParkAgain table v d.server.0 now) →
    IfSome o (λ d. parks_again d.desertion ≡ true → is_some (thread_at (change_thread table t f) d.server.0) ≡ true → CanParkAgain (change_thread table t f) v d.server.0 now)
server_parks_changed table v now t f same None h = h
server_parks_changed table v now t f same (Some d) h = λ parks. park_changed t f same (h parks)
