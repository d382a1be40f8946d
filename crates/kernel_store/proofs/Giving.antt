-- A giving in one pool of a store: the pick of the pool gets its oldest item.
use Rattle.std.proofs.Common.{◌≡◌, ◌⊎◌, inl, inr, ℕ, suc, ◌&&◌, Bool, true, false, List, [], ◌∷◌, Option, None, Some, IsSome, cond, filter, find, is_none, is_some, drop, length, map, refl, sym, subst, ap, ap₂, ◌∙◌, arith}
use Rattle.std.proofs.lemmas.Bool.Decides.{nat_tests}
use Rattle.dk_base.specs.ByNumber.{at_number}
use Rattle.dk_base.specs.declared.object.Item.TheVariants as item
use Rattle.spec_records.specs.Words.{ProcessTable, give_call, give_notice, give_thread, is_idle, is_pool, is_queued, is_queued_as, is_queued_in, pool_in, waiting_call, state_in, thread_at}
use Rattle.spec_kernel.specs.Types.{Call, Door, Item, Parked, Pool, Waiting}
use Rattle.spec_kernel.specs.Words.{give, give_one}
use Rattle.server_pool.specs.declared.facts.Match.{Match}
use Rattle.server_pool.specs.Words.{PoolsValue, change_pool, first_match, is_call, is_waiting_call, match_in, match_of, next_of, pick_of, queue_in, stack_in}
use Rattle.call_tree.specs.Words.{CallsValue}
use Rattle.unref_notice.specs.Words.{NoticesValue}
use Rattle.law_pools.specs.Words.{Agrees, IsGivenOutIn, waiting_in}
use Rattle.law_pools.proofs.GivingFirst.{give_first}
use Rattle.law_pools.proofs.Noticing.{agrees_give_notice}
use Rattle.law_pools.proofs.Queues.{agrees_give}
use Rattle.law_pools.proofs.Readers.{bindings-change_pool, is_pool-self, queue-change_other, queue-change_same, stack-change_other}
use Rattle.law_pools.proofs.Settling.{none_picked}
use Rattle.law_pools.proofs.WaitingLists.{first_passes}
use Rattle.law_pools.proofs.Stacks.{given_is_idle, given_pool_there}
use Rattle.kernel_store.specs.Giving.{GivesOn, HasGiven, IsGiving}
use Rattle.kernel_store.specs.Stored.{IsAgreed, StoreValue, stored_state}

-- what a pool matches

record IsMatch (stack : List Parked) (queue : List Waiting) (next : Match) : Type 0 where
  pick : Parked
  oldest : Waiting
  others : List Waiting
  picked : pick_of stack ≡ Some pick
  waits : queue ≡ oldest ∷ others
  same : next ≡ record { thread = pick.thread; item = oldest.item }

is_match : (stack : List Parked) (queue : List Waiting) (next : Match) → first_match stack queue ≡ Some next → IsMatch stack queue next
is_match stack queue next e = go (pick_of stack) refl queue refl e
  where
    go :
        (o : Option Parked) → pick_of stack ≡ o → (ws : List Waiting) → queue ≡ ws → match_of o (next_of ws) ≡ Some next →
        IsMatch stack queue next
    go None p [] q e = cc
    go None p (w ∷ ws) q e = cc
    go (Some x) p [] q e = cc
    go (Some x) p (w ∷ ws) q e = record { pick = x; oldest = w; others = ws; picked = p; waits = q; same = cc }

no_match : (stack : List Parked) (queue : List Waiting) → first_match stack queue ≡ None → (stack ≡ []) ⊎ (queue ≡ [])
no_match stack queue e = go (pick_of stack) refl queue refl e
  where
    go :
        (o : Option Parked) → pick_of stack ≡ o → (ws : List Waiting) → queue ≡ ws → match_of o (next_of ws) ≡ None →
        (stack ≡ []) ⊎ (queue ≡ [])
    go o p [] q e = inr q
    go None p (w ∷ ws) q e = inl (none_picked stack (ap is_some p))
    go (Some x) p (w ∷ ws) q e = cc

pub nothing_to_give : (s : StoreValue) (pool : Pool) → first_match (stack_in s.pools pool) (queue_in s.pools pool) ≡ None → IsGivenOutIn s.pools pool
nothing_to_give s pool e = no_match (stack_in s.pools pool) (queue_in s.pools pool) e

-- the oldest item of a queue, where that is a call, waits

first_found : (p q : Call → Bool) (rs : List Call) (r : Call) (more : List Call) → filter p rs ≡ r ∷ more → q r ≡ true → IsSome (find q rs)
first_found p q [] r more e k = cc
first_found p q (x ∷ rs) r more e k = go (p x) e (first_found p q rs r more) (q x) refl
  where
    go :
        (b : Bool) → cond b (x ∷ filter p rs) (filter p rs) ≡ r ∷ more → (filter p rs ≡ r ∷ more → q r ≡ true → IsSome (find q rs)) →
        (d : Bool) → q x ≡ d → IsSome (cond d (Some x) (find q rs))
    go b f ih true g = refl
    go true f ih false g = let same : x ≡ r = cc in let n : true ≡ false = sym k ∙ ap q (sym same) ∙ g in absurd cc
    go false f ih false g = ih f k

waits_queued : (c : ℕ) (b : Bool) (r : Call) (w : Waiting) → waiting_call r ≡ w → w.item ≡ item.Call c → (is_queued r.stage && b) ≡ true → is_queued_as c r ≡ true
waits_queued c b r w e i q = let n : r.number ≡ c = call_is r.number c (ap (λ (v : Waiting). v.item) e ∙ i) in grind (arith, nat_tests)
  where
    call_is : (a k : ℕ) → item.Call a ≡ item.Call k → a ≡ k
    call_is a k e = cc

queued_first :
    (doors : List Door) (calls : List Call) (pool : Pool) (queue others : List Waiting) (w : Waiting) (c : ℕ) → filter is_waiting_call queue ≡ waiting_in doors calls pool →
    queue ≡ w ∷ others → w.item ≡ item.Call c → IsSome (find (is_queued_as c) calls)
queued_first doors calls pool queue others w c e q i =
    go (filter (is_queued_in doors pool) calls) refl (sym e ∙ ap (filter is_waiting_call) q ∙ ap (λ b. cond b (w ∷ filter is_waiting_call others) (filter is_waiting_call others)) (is_one w.item i))
  where
    is_one : (x : Item) → x ≡ item.Call c → is_call x ≡ true
    is_one x e = ap is_call e

    go :
        (rs : List Call) → filter (is_queued_in doors pool) calls ≡ rs → map waiting_call rs ≡ w ∷ filter is_waiting_call others → IsSome (find (is_queued_as c) calls)
    go [] f k = cc
    go (r ∷ more) f k =
        let same : waiting_call r ≡ w = cc in
        first_found (is_queued_in doors pool) (is_queued_as c) calls r more f
        (waits_queued c (is_pool pool (pool_in (at_number doors r.door))) r w same i (first_passes (is_queued_in doors pool) calls r more f))

module _
    (s : StoreValue) (h : IsAgreed s) (pool : Pool) (next : Match)
    (matched : first_match (stack_in s.pools pool) (queue_in s.pools pool) ≡ Some next) where
  found : IsMatch (stack_in s.pools pool) (queue_in s.pools pool) next
  found = is_match (stack_in s.pools pool) (queue_in s.pools pool) next matched

  -- the thread is idle
  pub matched_is_idle : is_idle (state_in (thread_at s.processes next.thread.0)) ≡ true
  matched_is_idle =
      subst (λ (x : Match). is_idle (state_in (thread_at s.processes x.thread.0)) ≡ true) (sym found.same)
      (given_is_idle h pool found.pick found.picked)

  -- an item that is a call waits
  pub matched_waits : (c : ℕ) → next.item ≡ item.Call c → IsSome (find (is_queued_as c) s.calls.tree.calls)
  matched_waits c e =
      queued_first s.doors.items s.calls.tree.calls pool (queue_in s.pools pool) found.others found.oldest c (h.queues pool).calls_wait found.waits
      (ap (λ (x : Match). x.item) (sym found.same) ∙ e)

  abbrev t : ℕ
  t = found.pick.thread.0

  thread_is : next.thread.0 ≡ t
  thread_is = ap (λ (x : Match). x.thread.0) found.same

  oldest_is : (i : Item) → next.item ≡ i → found.oldest.item ≡ i
  oldest_is i e = ap (λ (x : Match). x.item) (sym found.same) ∙ e

  -- a store after it that has given this item
  module _
      (then : StoreValue) (left : then.pools ≡ change_pool s.pools pool match_in) (same_latest : then.latest ≡ s.latest)
      (given : stored_state then ≡ give_one (stored_state s) found.oldest.item t) where
    queue_left : queue_in then.pools pool ≡ found.others
    queue_left =
        ap (λ v. queue_in v pool) left
        ∙ queue-change_same s.pools pool pool match_in (is_pool-self pool) (given_pool_there h pool found.pick found.picked)
        ∙ ap (drop 1) found.waits

    not_none : (o : Option Parked) (x : Parked) → o ≡ Some x → is_none o ≡ true → ⊥
    not_none None x e f = cc
    not_none (Some y) x e f = cc

    gives_on_so : GivesOn pool s then
    gives_on_so =
        record {
          giving =
              record {
                given =
                    give_first s.latest (stored_state s) s.pools refl h pool found.oldest found.others found.pick found.waits found.picked
                    ∙ ap give (sym given);
                stacks = λ other f. ap (λ v. stack_in v other) left ∙ stack-change_other s.pools pool other match_in f;
                queues = λ other f. ap (λ v. queue_in v other) left ∙ queue-change_other s.pools pool other match_in f;
                idle = λ e. absurd (not_none (pick_of (stack_in s.pools pool)) found.pick found.picked e);
                latest = same_latest;
              };
          fewer =
              let more : length (queue_in s.pools pool) ≡ suc (length found.others) = ap length found.waits in
              let rest : length (queue_in then.pools pool) ≡ length found.others = ap length queue_left in
              omega (arith, more, rest);
        }

  -- of a call, and of a notice
  module _
      (i : Item) (its_item : next.item ≡ i) (table : ProcessTable) (pools : PoolsValue)
      (given : table ≡ give_thread s.processes next.thread.0 next.item) (left : pools ≡ change_pool s.pools pool match_in) where
    table_is : table ≡ give_thread s.processes t i
    table_is = given ∙ ap₂ (give_thread s.processes) thread_is its_item

    bindings_kept : pools.bindings ≡ s.pools.bindings
    bindings_kept = ap (λ (v : PoolsValue). v.bindings) left ∙ bindings-change_pool s.pools pool match_in

  module _
      (c : ℕ) (is_call : next.item ≡ item.Call c) (table : ProcessTable) (pools : PoolsValue) (calls : CallsValue)
      (given : table ≡ give_thread s.processes next.thread.0 next.item) (left : pools ≡ change_pool s.pools pool match_in)
      (staged : calls.tree ≡ give_call s.calls.tree c next.thread.0) where
    tree_is : calls.tree ≡ give_call s.calls.tree c t
    tree_is = staged ∙ ap (give_call s.calls.tree c) thread_is

    pub agrees_given : Agrees s.latest table s.doors.items calls.tree s.notices.list pools
    agrees_given =
        subst (λ v. Agrees s.latest table s.doors.items calls.tree s.notices.list v) (sym left)
        (subst (λ tree. Agrees s.latest table s.doors.items tree s.notices.list (change_pool s.pools pool match_in)) (sym tree_is)
        (subst (λ x. Agrees s.latest x s.doors.items (give_call s.calls.tree c t) s.notices.list (change_pool s.pools pool match_in))
        (sym (table_is (item.Call c) is_call table pools given left))
        (agrees_give h pool found.pick found.oldest found.others c found.picked found.waits (oldest_is (item.Call c) is_call))))

    abbrev then : StoreValue
    then = record s { processes = table; pools = pools; calls = calls }

    state_given : stored_state then ≡ give_one (stored_state s) found.oldest.item t
    state_given =
        ap (λ x. stored_state (record then { processes = x })) (table_is (item.Call c) is_call table pools given left)
        ∙ ap₂
        (λ tree bindings. record (stored_state s) { process_table = give_thread s.processes t (item.Call c); bindings = bindings; call_tree = tree })
        tree_is (bindings_kept (item.Call c) is_call table pools given left)
        ∙ ap (λ i. give_one (stored_state s) i t) (sym (oldest_is (item.Call c) is_call))

    pub gives_on : GivesOn pool s then
    gives_on = gives_on_so then left refl state_given

  module _
      (k : ℕ) (is_notice : next.item ≡ item.Notice k) (table : ProcessTable) (pools : PoolsValue) (notices : NoticesValue)
      (given : table ≡ give_thread s.processes next.thread.0 next.item) (left : pools ≡ change_pool s.pools pool match_in)
      (staged : notices.list ≡ give_notice s.notices.list k next.thread.0) where
    list_is : notices.list ≡ give_notice s.notices.list k t
    list_is = staged ∙ ap (give_notice s.notices.list k) thread_is

    pub agrees_given_notice : Agrees s.latest table s.doors.items s.calls.tree notices.list pools
    agrees_given_notice =
        subst (λ v. Agrees s.latest table s.doors.items s.calls.tree notices.list v) (sym left)
        (subst (λ list. Agrees s.latest table s.doors.items s.calls.tree list (change_pool s.pools pool match_in)) (sym list_is)
        (subst (λ x. Agrees s.latest x s.doors.items s.calls.tree (give_notice s.notices.list k t) (change_pool s.pools pool match_in))
        (sym (table_is (item.Notice k) is_notice table pools given left))
        (agrees_give_notice h pool found.pick found.oldest found.others k found.picked found.waits (oldest_is (item.Notice k) is_notice))))

    abbrev then_noticed : StoreValue
    then_noticed = record s { processes = table; pools = pools; notices = notices }

    state_noticed : stored_state then_noticed ≡ give_one (stored_state s) found.oldest.item t
    state_noticed =
        ap (λ x. stored_state (record then_noticed { processes = x })) (table_is (item.Notice k) is_notice table pools given left)
        ∙ ap₂
        (λ list bindings. record (stored_state s) { process_table = give_thread s.processes t (item.Notice k); bindings = bindings; notice_list = list })
        list_is (bindings_kept (item.Notice k) is_notice table pools given left)
        ∙ ap (λ i. give_one (stored_state s) i t) (sym (oldest_is (item.Notice k) is_notice))

    pub gives_on_notice : GivesOn pool s then_noticed
    gives_on_notice = gives_on_so then_noticed left refl state_noticed

-- givings in one pool, one after another

-- where the pool has given all that it can
pub all_given :
    (pool : Pool) (before now after : StoreValue) → IsGiving pool before now →
    (after ≡ now) × IsGivenOutIn now.pools pool × IsAgreed now → HasGiven pool before after
all_given pool before now after g (e, out, agreed) =
    subst (HasGiven pool before) (sym e) (record { giving = g; out = out; agreed = agreed })
