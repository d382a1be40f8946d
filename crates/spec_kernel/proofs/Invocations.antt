-- The invocations of threads after changes of the table of threads, and after settling.
use Rattle.std.proofs.Common.{◌≡◌, ℕ, ◌==◌, ◌&&◌, Bool, true, false, if◌then◌else◌, Option, None, Some, is_some, option_map, refl, sym, ap, ◌∙◌, arith}
use Rattle.std.proofs.lemmas.Bool.Decides.{nat_tests}
use Rattle.spec_kernel.specs.Types.{Item, Thread, ThreadState}
use Rattle.dk_base.specs.declared.object.Item.TheVariants as item
use Rattle.spec_records.specs.declared.record.ThreadState.TheVariants as is
use Rattle.spec_records.specs.Words.{ProcessTable, enter_thread, thread_in_invocation, invocation_in, new_invocation, park_thread, idle_thread, thread_at, set_thread_state, thread_at_state, change_thread}
use Rattle.spec_kernel.specs.State.{State, invocation_of, with_state, now}
use Rattle.spec_kernel.specs.Settle.{give_one, settle}
use Rattle.spec_kernel.proofs.Settling.{settle-all}
use Rattle.spec_kernel.proofs.Threads.{invocation-change_thread}

-- a thread that turns keeps its invocation
pub invocation-set_thread_state :
    (table : ProcessTable) (t u : ℕ) (s : ThreadState) →
    invocation_in (thread_at (set_thread_state table t s) u) ≡ invocation_in (thread_at table u)
invocation-set_thread_state table t u s = invocation-change_thread table t u (thread_at_state s) ∙ go (u == t) refl (thread_at table t) refl
  where
    go :
        (b : Bool) → (u == t) ≡ b → (o : Option Thread) → thread_at table t ≡ o →
        (if b then invocation_in (option_map (thread_at_state s) o) else invocation_in (thread_at table u)) ≡ invocation_in (thread_at table u)
    go false e o f = refl
    go true e o f = turned_same o ∙ sym (ap invocation_in f) ∙ ap (λ n. invocation_in (thread_at table n)) (grind (arith, nat_tests))
      where
        turned_same : (o : Option Thread) → invocation_in (option_map (thread_at_state s) o) ≡ invocation_in o
        turned_same None = refl
        turned_same (Some x) = refl

pub invocation-enter_thread :
    (table : ProcessTable) (t u : ℕ) (i : Item) →
    invocation_in (thread_at (enter_thread table t i) u)
    ≡ (if (u == t) && is_some (thread_at table t) then Some (new_invocation i) else invocation_in (thread_at table u))
invocation-enter_thread table t u i = invocation-change_thread table t u (thread_in_invocation i) ∙ go (u == t) refl (thread_at table t) refl
  where
    go :
        (b : Bool) → (u == t) ≡ b → (o : Option Thread) → thread_at table t ≡ o →
        (if b then invocation_in (option_map (thread_in_invocation i) o) else invocation_in (thread_at table u))
        ≡ (if b && is_some o then Some (new_invocation i) else invocation_in (thread_at table u))
    go false e o f = refl
    go true e None f = sym (ap invocation_in (ap (thread_at table) (grind (arith, nat_tests)) ∙ f))
    go true e (Some x) f = refl

-- a change of a thread after which it has no invocation
pub invocation-without :
    (table : ProcessTable) (t u : ℕ) (change : Thread → Thread) → ((x : Thread) → (change x).invocation ≡ None) →
    invocation_in (thread_at (change_thread table t change) u) ≡ (if u == t then None else invocation_in (thread_at table u))
invocation-without table t u change none = invocation-change_thread table t u change ∙ go (u == t) (thread_at table t)
  where
    go :
        (b : Bool) (o : Option Thread) →
        (if b then invocation_in (option_map change o) else invocation_in (thread_at table u))
        ≡ (if b then None else invocation_in (thread_at table u))
    go false o = refl
    go true None = refl
    go true (Some x) = none x

pub invocation-park_thread :
    (table : ProcessTable) (t now u : ℕ) →
    invocation_in (thread_at (park_thread table t now) u) ≡ (if u == t then None else invocation_in (thread_at table u))
invocation-park_thread table t now u = invocation-without table t u (idle_thread now) (λ x. refl)

pub invocation_of-with_state : (m : State) (t u : ℕ) (s : ThreadState) → invocation_of (with_state m t s) u ≡ invocation_of m u
invocation_of-with_state m t u s = invocation-set_thread_state m.process_table t u s

-- settling

invocation_of-give_one : (m : State) (i : Item) (n u : ℕ) → invocation_of (give_one m i n) u ≡ invocation_of m u
invocation_of-give_one m (item.Call c) n u = invocation-set_thread_state m.process_table n u (is.Given (item.Call c))
invocation_of-give_one m (item.Notice k) n u = invocation-set_thread_state m.process_table n u (is.Given (item.Notice k))

-- what is given enters nothing yet, and a thread that fails or starts has what it had
pub invocation_of-settle : (before m : State) (u : ℕ) → invocation_of (settle before m) u ≡ invocation_of m u
invocation_of-settle before m u =
    settle-all (λ n. invocation_of n u ≡ invocation_of m u) before
    (record {
      makes = λ n d due e. e;
      fails = λ n t l e. invocation-set_thread_state n.process_table t u is.FailedReturn ∙ e;
      gives = λ n w x p e. invocation_of-give_one n w.item x.thread.0 u ∙ e;
      starts = λ n t d e. invocation_of-with_state n t u is.Running ∙ e;
    }) (λ n h. h)
    m
    refl
