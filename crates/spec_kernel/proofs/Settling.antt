-- Settling by its parts: notices are made, threads that lost their door fail, items are given, spares start, ports are told.
use Rattle.std.proofs.Common.{◌≡◌, ℕ, zero, suc, ◌+◌, ◌==◌, ◌&&◌, Bool, true, false, if◌then◌else◌, List, [], ◌∷◌, Option, None, Some, option_map, position, slice_get, length, refl, sym, ap, ap₂, ◌∙◌, arith}
use Rattle.std.proofs.lemmas.Bool.Decides.{nat_tests}
use Rattle.std.proofs.lemmas.List.Quantifiers.{position-Some}
use Rattle.std.proofs.lemmas.Option.{slice_get-get_or}
use Rattle.dk_base.specs.ByNumber.{at_number}
use Rattle.dk_base.specs.declared.object.Item.TheVariants as item
use Rattle.spec_kernel.specs.Types.{Item, Parked, Pool, Thread, ThreadState, Waiting}
use Rattle.spec_records.specs.declared.record.ThreadState.TheVariants as is
use Rattle.spec_records.specs.Words.{ProcessTable, better_parked, bound_at, is_dormant, is_spare_of, make_notice, new_thread, parked_at, parked_in, parked_thread, pick_among, pool_of_thread, process_in, set_thread_state, start_thread_at, state_in, thread_at, thread_at_state}
use Rattle.spec_kernel.specs.Notices.{is_due, make_each, make_notices}
use Rattle.spec_kernel.specs.State.{State, door_of, now, pick, pool_of, process_of, state_of, waiting_items, with_state}
use Rattle.spec_kernel.specs.Settle.{fail_each, fail_one, fail_return, fail_returns, give, give_and_start, give_each, give_one, give_to, has_lost_door, needs_spare, settle, settle_pools, start_each, start_one, start_spares}
use Rattle.spec_kernel.specs.Telling.{tell}
use Rattle.spec_records.proofs.Lists.{at_number-suc, same_length}
use Rattle.spec_kernel.proofs.Threads.{map-change_thread, processes-change_thread, thread_at-change_thread}

-- the spare that starts is Dormant

record IsSpareAt (xs : List Thread) (p i : ℕ) : Type 0 where
  spare : Thread
  there : slice_get xs i ≡ Some spare
  is_spare : is_spare_of p spare ≡ true

spare_at : (xs : List Thread) (p i : ℕ) → position (is_spare_of p) xs ≡ Some i → IsSpareAt xs p i
spare_at xs p i e =
    let h = position-Some (is_spare_of p) xs i (new_thread 0 0 true) e in
    record { spare = _; there = slice_get-get_or xs i (new_thread 0 0 true) h.0; is_spare = h.1 }

dormant_is : (s : ThreadState) → is_dormant s ≡ true → s ≡ is.Dormant
dormant_is is.Dormant e = refl
dormant_is s e = cc

-- and is of the process
record IsSpareThread (table : ProcessTable) (p t : ℕ) : Type 0 where
  dormant : state_in (thread_at table t) ≡ is.Dormant
  process : process_in (thread_at table t) ≡ p

spare_thread : (table : ProcessTable) (p i : ℕ) → position (is_spare_of p) table.threads ≡ Some i → IsSpareThread table p (i + 1)
spare_thread table p i e =
    record {
      dormant = ap state_in found ∙ dormant_is x.spare.state (second (x.spare.process.0 == p) (is_dormant x.spare.state) x.is_spare);
      process = ap process_in found ∙ same (first (x.spare.process.0 == p) (is_dormant x.spare.state) x.is_spare);
    }
  where
    x : IsSpareAt table.threads p i
    x = spare_at table.threads p i e

    found : thread_at table (i + 1) ≡ Some x.spare
    found = ap (at_number table.threads) (omega arith) ∙ at_number-suc table.threads i ∙ x.there

    first : (b c : Bool) → b && c ≡ true → b ≡ true
    first true c e = refl
    first false c e = cc

    second : (b c : Bool) → b && c ≡ true → c ≡ true
    second true c e = e
    second false c e = cc

    same : (x.spare.process.0 == p) ≡ true → x.spare.process.0 ≡ p
    same f = grind (arith, nat_tests)

-- a state with one notice more
abbrev pub with_notice_of : State → ℕ → State
with_notice_of m d = record m { notice_list = make_notice m.notice_list (now m) d }

-- what each change of a part keeps, the part keeps
module _ (P : State → Type 0) where
  -- from the state before the event
  abbrev pub KeptByMaking : State → Type 0
  KeptByMaking before = (m : State) (d : ℕ) → is_due before m d (door_of m d) ≡ true → P m → P (with_notice_of m d)

  abbrev pub KeptByFailing : Type 0
  KeptByFailing = (m : State) (t : ℕ) → has_lost_door m t ≡ true → P m → P (fail_return m t)

  abbrev pub KeptByGiving : Type 0
  KeptByGiving = (m : State) (w : Waiting) (x : Parked) → pick m (pool_of m w.door) ≡ Some x → P m → P (give_one m w.item x.thread.0)

  abbrev pub KeptByStarting : Type 0
  KeptByStarting = (m : State) (t : ℕ) → state_of m t ≡ is.Dormant → P m → P (with_state m t is.Running)

  make_each-all : (before : State) → KeptByMaking before → (m : State) (n : ℕ) → P m → P (make_each before m n)
  make_each-all before one m zero h = h
  make_each-all before one m (suc n) h =
      go (make_each before m n) (is_due before (make_each before m n) (suc n) (door_of (make_each before m n) (suc n))) refl
      (make_each-all before one m n h)
    where
      go :
          (k : State) (b : Bool) → is_due before k (suc n) (door_of k (suc n)) ≡ b → P k →
          P (if b then with_notice_of k (suc n) else k)
      go k true e h = one k (suc n) e h
      go k false e h = h

  pub make_notices-all : (before : State) → KeptByMaking before → (m : State) → P m → P (make_notices before m)
  make_notices-all before one m h = make_each-all before one m (length m.doors) h

  fail_each-all : KeptByFailing → (m : State) (n : ℕ) → P m → P (fail_each m n)
  fail_each-all one m zero h = h
  fail_each-all one m (suc n) h = go (has_lost_door (fail_each m n) (suc n)) refl (fail_each-all one m n h)
    where
      go :
          (b : Bool) → has_lost_door (fail_each m n) (suc n) ≡ b → P (fail_each m n) →
          P (if b then fail_return (fail_each m n) (suc n) else fail_each m n)
      go true e h = one (fail_each m n) (suc n) e h
      go false e h = h

  pub fail_returns-all : KeptByFailing → (m : State) → P m → P (fail_returns m)
  fail_returns-all one m h = fail_each-all one m (length m.process_table.threads) h

  pub give_each-all : KeptByGiving → (m : State) (ws : List Waiting) → P m → P (give_each m ws)
  give_each-all one m [] h = h
  give_each-all one m (w ∷ ws) h =
      give_each-all one (give_to m w (pick m (pool_of m w.door))) ws (go (pick m (pool_of m w.door)) refl)
    where
      go : (o : Option Parked) → pick m (pool_of m w.door) ≡ o → P (give_to m w o)
      go None e = h
      go (Some x) e = one m w x e h

  pub give-all : KeptByGiving → (m : State) → P m → P (give m)
  give-all one m h = give_each-all one m (waiting_items m) h

  -- of a process that needs a spare
  abbrev pub KeptByNeeded : State → State → State → Type 0
  KeptByNeeded before ungiven given =
      (m : State) (t : ℕ) → state_of m t ≡ is.Dormant → needs_spare before ungiven given (process_of m t) ≡ true → P m →
      P (with_state m t is.Running)

  start_one-all :
      (before ungiven given : State) → KeptByNeeded before ungiven given → (m : State) (p : ℕ) (b : Bool) →
      needs_spare before ungiven given p ≡ b → P m → P (start_one m p b)
  start_one-all before ungiven given one m p false n h = h
  start_one-all before ungiven given one m p true n h = go (position (is_spare_of p) m.process_table.threads) refl
    where
      go :
          (o : Option ℕ) → position (is_spare_of p) m.process_table.threads ≡ o →
          P (record m { process_table = start_thread_at m.process_table o })
      go None e = h
      go (Some i) e =
          let x : IsSpareThread m.process_table p (i + 1) = spare_thread m.process_table p i e in
          one m (i + 1) x.dormant (ap (needs_spare before ungiven given) x.process ∙ n) h

  start_each-needed :
      (before ungiven given : State) → KeptByNeeded before ungiven given → (n : ℕ) → P given → P (start_each before ungiven given n)
  start_each-needed before ungiven given one zero h = h
  start_each-needed before ungiven given one (suc n) h =
      start_one-all before ungiven given one (start_each before ungiven given n) (suc n) (needs_spare before ungiven given (suc n)) refl
      (start_each-needed before ungiven given one n h)

  pub start_spares-needed :
      (before ungiven given : State) → KeptByNeeded before ungiven given → P given → P (start_spares before ungiven given)
  start_spares-needed before ungiven given one h =
      start_each-needed before ungiven given one (length given.process_table.processes) h

  pub start_spares-all : KeptByStarting → (before ungiven given : State) → P given → P (start_spares before ungiven given)
  start_spares-all one before ungiven given h = start_spares-needed before ungiven given (λ m t d n k. one m t d k) h

  abbrev pub KeptByTelling : Type 0
  KeptByTelling = (m : State) → P m → P (tell m)

  pub give_and_start-all : KeptByGiving → KeptByStarting → (before m : State) → P m → P (give_and_start before m)
  give_and_start-all gives starts before m h = start_spares-all starts before m (give m) (give-all gives m h)

  -- each part keeps it, in an event that began in this state
  pub record KeptByParts (before : State) : Type 0 where
    pub makes : KeptByMaking before
    pub fails : KeptByFailing
    pub gives : KeptByGiving
    pub starts : KeptByStarting

  pub settle_pools-all : (before : State) → KeptByParts before → (m : State) → P m → P (settle_pools before m)
  settle_pools-all before kept m h =
      give_and_start-all kept.gives kept.starts before (fail_returns (make_notices before m))
      (fail_returns-all kept.fails (make_notices before m) (make_notices-all before kept.makes m h))

  pub settle-all : (before : State) → KeptByParts before → KeptByTelling → (m : State) → P m → P (settle before m)
  settle-all before kept tells m h = tells (settle_pools before m) (settle_pools-all before kept m h)

-- what no part changes

abbrev pub with_threads : State → ProcessTable → List (Option ℕ) → State
with_threads m table bindings = record m { process_table = table; bindings = bindings }

-- making changes notices alone
pub make_notices-alone : (before m : State) → make_notices before m ≡ record m { notice_list = (make_notices before m).notice_list }
make_notices-alone before m = make_notices-all (λ n. n ≡ record m { notice_list = n.notice_list }) before one m refl
  where
    one : KeptByMaking (λ n. n ≡ record m { notice_list = n.notice_list }) before
    one n d due e = ap {A = State} {B = State} (λ k. record k { notice_list = (with_notice_of n d).notice_list }) e

-- failing changes threads and bindings alone
pub fail_returns-alone : (m : State) → fail_returns m ≡ with_threads m (fail_returns m).process_table (fail_returns m).bindings
fail_returns-alone m = fail_returns-all (λ n. n ≡ with_threads m n.process_table n.bindings) one m refl
  where
    one : KeptByFailing (λ n. n ≡ with_threads m n.process_table n.bindings)
    one n t l e = ap (λ k. with_threads k (fail_return n t).process_table (fail_return n t).bindings) e

-- starting changes threads alone
pub start_spares-alone :
    (before ungiven given : State) →
    start_spares before ungiven given ≡ with_threads given (start_spares before ungiven given).process_table given.bindings
start_spares-alone before ungiven given =
    start_spares-all (λ n. n ≡ with_threads given n.process_table given.bindings) one before ungiven given refl
  where
    one : KeptByStarting (λ n. n ≡ with_threads given n.process_table given.bindings)
    one n t d e = ap (λ k. with_threads k (with_state n t is.Running).process_table k.bindings) e

-- a state with the threads, calls and notices of another, which are all that settling changes before ports are told
abbrev pub with_settled : State → State → State
with_settled m n =
    record m { process_table = n.process_table; bindings = n.bindings; call_tree = n.call_tree; notice_list = n.notice_list }

pub settle_pools-alone : (before m : State) → settle_pools before m ≡ with_settled m (settle_pools before m)
settle_pools-alone before m =
    settle_pools-all (λ n. n ≡ with_settled m n) before (record { makes = makes; fails = fails; gives = gives; starts = starts }) m refl
  where
    changed : (n o : State) → n ≡ with_settled m n → o ≡ with_settled n o → o ≡ with_settled m o
    changed n o e f = f ∙ ap (λ k. with_settled k o) e

    makes : KeptByMaking (λ n. n ≡ with_settled m n) before
    makes n d due e = changed n (with_notice_of n d) e refl

    fails : KeptByFailing (λ n. n ≡ with_settled m n)
    fails n t l e = changed n (fail_return n t) e refl

    given : (n : State) (i : Item) (u : ℕ) → give_one n i u ≡ with_settled n (give_one n i u)
    given n (item.Call c) u = refl
    given n (item.Notice k) u = refl

    gives : KeptByGiving (λ n. n ≡ with_settled m n)
    gives n w x p e = changed n (give_one n w.item x.thread.0) e (given n w.item x.thread.0)

    starts : KeptByStarting (λ n. n ≡ with_settled m n)
    starts n t d e = changed n (with_state n t is.Running) e refl

-- nor does it change processes
pub processes-settle_pools : (before m : State) → (settle_pools before m).process_table.processes ≡ m.process_table.processes
processes-settle_pools before m =
    settle_pools-all (λ n. n.process_table.processes ≡ m.process_table.processes) before (record { makes = λ n d due e. e; fails = fails; gives = gives; starts = starts }) m refl
  where
    fails : KeptByFailing (λ n. n.process_table.processes ≡ m.process_table.processes)
    fails n t l e = processes-change_thread n.process_table t (thread_at_state is.FailedReturn) ∙ e

    given : (n : State) (i : Item) (u : ℕ) → (give_one n i u).process_table.processes ≡ n.process_table.processes
    given n (item.Call c) u = processes-change_thread n.process_table u (thread_at_state (is.Given (item.Call c)))
    given n (item.Notice k) u = processes-change_thread n.process_table u (thread_at_state (is.Given (item.Notice k)))

    gives : KeptByGiving (λ n. n.process_table.processes ≡ m.process_table.processes)
    gives n w x p e = given n w.item x.thread.0 ∙ e

    starts : KeptByStarting (λ n. n.process_table.processes ≡ m.process_table.processes)
    starts n t d e = processes-change_thread n.process_table t (thread_at_state is.Running) ∙ e

pub doors-settle : (before m : State) → (settle before m).doors ≡ m.doors
doors-settle before m = ap (λ (n : State). n.doors) (settle_pools-alone before m)

pub names-settle : (before m : State) → (settle before m).names ≡ m.names
names-settle before m = ap (λ (n : State). n.names) (settle_pools-alone before m)

pub tables-settle : (before m : State) → (settle before m).tables ≡ m.tables
tables-settle before m = ap (λ (n : State). n.tables) (settle_pools-alone before m)

pub channels-settle_pools : (before m : State) → (settle_pools before m).channels ≡ m.channels
channels-settle_pools before m = ap (λ (n : State). n.channels) (settle_pools-alone before m)

pub pipes-settle : (before m : State) → (settle before m).channels.pipes ≡ m.channels.pipes
pipes-settle before m = ap (λ (n : State). n.channels.pipes) (settle_pools-alone before m)

pub events-settle : (before m : State) → (settle before m).events ≡ m.events
events-settle before m = ap (λ (n : State). n.events) (settle_pools-alone before m)

-- where no thread has lost its door, none fails

fail_each-none : (m : State) (n : ℕ) → ((t : ℕ) → has_lost_door m t ≡ false) → fail_each m n ≡ m
fail_each-none m zero h = refl
fail_each-none m (suc n) h =
    ap (λ k. fail_one k (suc n)) (fail_each-none m n h) ∙ ap (λ b. if b then fail_return m (suc n) else m) (h (suc n))

pub fail_returns-none : (m : State) → ((t : ℕ) → has_lost_door m t ≡ false) → fail_returns m ≡ m
fail_returns-none m h = fail_each-none m (length m.process_table.threads) h

pub has_lost_door-make_notices : (before m : State) (t : ℕ) → has_lost_door (make_notices before m) t ≡ has_lost_door m t
has_lost_door-make_notices before m t = ap (λ k. has_lost_door k t) (make_notices-alone before m)

pub settle-not_failed :
    (before m : State) → ((t : ℕ) → has_lost_door m t ≡ false) → settle before m ≡ tell (give_and_start before (make_notices before m))
settle-not_failed before m h =
    ap (λ n. tell (give_and_start before n)) (fail_returns-none (make_notices before m) (λ t. has_lost_door-make_notices before m t ∙ h t))

-- and where no notice is made either
pub settle-none :
    (before m : State) → ((t : ℕ) → has_lost_door m t ≡ false) → make_notices before m ≡ m → settle before m ≡ tell (give_and_start before m)
settle-none before m h e = settle-not_failed before m h ∙ ap (λ n. tell (give_and_start before n)) e

-- a pool has the same pick after spares have started

pick_among-same :
    (a b : ProcessTable) (bindings : List (Option ℕ)) (pool : Pool) → ((t : ℕ) → parked_at a bindings t ≡ parked_at b bindings t) →
    (n : ℕ) → pick_among a bindings pool n ≡ pick_among b bindings pool n
pick_among-same a b bindings pool h zero = refl
pick_among-same a b bindings pool h (suc n) = ap₂ (better_parked pool) (pick_among-same a b bindings pool h n) (h (suc n))

-- a Dormant thread stands in no pool, and no more does a Running one
parked-started :
    (table : ProcessTable) (bindings : List (Option ℕ)) (t u : ℕ) → state_in (thread_at table t) ≡ is.Dormant →
    parked_at (set_thread_state table t is.Running) bindings u ≡ parked_at table bindings u
parked-started table bindings t u d =
    ap (parked_thread bindings u) (thread_at-change_thread table t u (thread_at_state is.Running))
    ∙ go (u == t) refl (thread_at table t) refl d
  where
    dormant : (o : Option Thread) → state_in o ≡ is.Dormant → parked_thread bindings u o ≡ None
    dormant None e = refl
    dormant (Some x) e = ap (parked_in u (pool_of_thread x (bound_at bindings u))) e

    running : (o : Option Thread) → parked_thread bindings u (option_map (thread_at_state is.Running) o) ≡ None
    running None = refl
    running (Some x) = refl

    go :
        (b : Bool) → (u == t) ≡ b → (o : Option Thread) → thread_at table t ≡ o → state_in o ≡ is.Dormant →
        parked_thread bindings u (if b then option_map (thread_at_state is.Running) o else thread_at table u) ≡ parked_at table bindings u
    go false e o f d = refl
    go true e o f d =
        running o
        ∙ sym (dormant o d)
        ∙ ap (parked_thread bindings u) (sym f ∙ ap (thread_at table) (grind (arith, nat_tests)))

pub pick-start_spares :
    (before ungiven given : State) (pool : Pool) → pick (start_spares before ungiven given) pool ≡ pick given pool
pick-start_spares before ungiven given pool =
    start_spares-all (λ n. pick n pool ≡ pick given pool) one before ungiven given refl
  where
    one : KeptByStarting (λ n. pick n pool ≡ pick given pool)
    one n t d e =
        ap (pick_among (set_thread_state n.process_table t is.Running) n.bindings pool)
        (same_length (λ (x : Thread). x.number) (set_thread_state n.process_table t is.Running).threads n.process_table.threads
        (map-change_thread (λ (x : Thread). x.number) n.process_table t (thread_at_state is.Running) (λ x. refl)))
        ∙ pick_among-same (set_thread_state n.process_table t is.Running) n.process_table n.bindings pool
        (λ u. parked-started n.process_table n.bindings t u d)
        (length n.process_table.threads)
        ∙ e
