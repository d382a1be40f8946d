-- What is known of threads that wait for paths, as a thread changes, comes or leaves, and as names come and go.
use Rattle.std.proofs.Common.{ℕ, suc, ◌≡◌, ◌≢◌, ◌==◌, ◌++◌, ◌∷◌, [], Bool, true, false, List, Option, Some, None, is_some, find, length, option_map, if◌then◌else◌, inl, inr, refl, sym, ap, ◌∙◌, arith}
use Rattle.std.proofs.lemmas.Bool.{cases_eq}
use Rattle.std.proofs.lemmas.Bool.Decides.{nat_tests}
use Rattle.dk_base.specs.ByNumber.{at_number}
use Rattle.dk_base.specs.declared.number.PathId.{PathId}
use Rattle.spec_records.specs.declared.record.ThreadState.TheVariants as is
use Rattle.spec_records.specs.declared.record.CallStage.TheVariants as stage
use Rattle.spec_records.specs.Words.{Leaving, ProcessTable, change_thread, deserted_at, deserted_in, end_process, idle_thread, interrupted_state, interrupted_where, is_left, is_served_by, left_thread, left_thread_of, left_threads, name_in, set_thread_state, state_in, thread_at, thread_at_state, thread_in_invocation, thread_outside}
use Rattle.spec_records.proofs.Lists.{at_number-map, at_number-push}
use Rattle.spec_kernel.specs.Types.{Call, CallStage, Item, Name, Thread, ThreadState}
use Rattle.law_calls.proofs.Free.{changed_elsewhere, changed_here}
use Rattle.spec_kernel.proofs.Threads.{thread_at-change_thread, thread_at-end_process}
use Rattle.dk_base.specs.declared.thread_set.ThreadSet.{ThreadSet}
use Rattle.dk_base.specs.Words.{has, with_thread}
use Rattle.kernel_store.specs.Turning.{KnowsPaths, is_found_at}

-- a change after which a thread waits for no path that it did not wait for
abbrev pub AwaitsNoMore : (Thread → Thread) → Type 0
AwaitsNoMore f = (x : Thread) (path : PathId) → (f x).state ≡ is.Awaiting path → x.state ≡ is.Awaiting path

pub idle_still : (now : ℕ) → AwaitsNoMore (idle_thread now)
idle_still now x path e = absurd cc

pub entered_still : (i : Item) → AwaitsNoMore (thread_in_invocation i)
entered_still i x path e = absurd cc

pub outside_still : AwaitsNoMore thread_outside
outside_still x path e = e

pub turned_still : (s : ThreadState) → ((path : PathId) → s ≡ is.Awaiting path → ⊥) → AwaitsNoMore (thread_at_state s)
turned_still s none x path e = absurd (none path e)

not_awaiting : (path : PathId) → is.Done ≡ is.Awaiting path → ⊥
not_awaiting path e = absurd cc

-- threads are interrupted, left and ended

left_still : (who : Leaving) (now : ℕ) (served : Option Call) → AwaitsNoMore (left_thread who now served)
left_still who now served x path = ended (who.ends x.number)
  where
    interrupted : (s : ThreadState) → interrupted_state s ≡ is.Awaiting path → s ≡ is.Awaiting path
    interrupted (is.Getting port max nget one i) e = absurd cc
    interrupted s e = e

    where_so : (b : Bool) → (interrupted_where b x).state ≡ is.Awaiting path → x.state ≡ is.Awaiting path
    where_so true e = interrupted x.state e
    where_so false e = e

    at : (b : Bool) (no_cancel : Bool) (s : CallStage) → (deserted_at now no_cancel s (interrupted_where b x)).state ≡ is.Awaiting path → x.state ≡ is.Awaiting path
    at b no_cancel (stage.Given u) e = absurd cc
    at b true (stage.Entered u) e = where_so b e
    at b false (stage.Entered u) e = where_so b e
    at b no_cancel s e = where_so b e

    left : (l : Bool) (b : Bool) (r : Call) → (if l then deserted_at now r.no_cancel r.stage (interrupted_where b x) else interrupted_where b x).state ≡ is.Awaiting path → x.state ≡ is.Awaiting path
    left true b r e = at b r.no_cancel r.stage e
    left false b r e = where_so b e

    deserted : (b : Bool) (o : Option Call) → (deserted_in who now o (interrupted_where b x)).state ≡ is.Awaiting path → x.state ≡ is.Awaiting path
    deserted b None e = where_so b e
    deserted b (Some r) e = left (is_left who r) b r e

    ended : (b : Bool) → (if b then record x { invocation = None; state = is.Done } else deserted_in who now served (interrupted_where (who.interrupts x.number) x)).state ≡ is.Awaiting path → x.state ≡ is.Awaiting path
    ended true e = absurd cc
    ended false e = deserted (who.interrupts x.number) served e

module _ {names : List Name} {named : ThreadSet} where
  -- no more threads wait for paths
  pub knows_fewer :
      {before after : ProcessTable} → KnowsPaths before names named →
      ((t : ℕ) (path : PathId) → state_in (thread_at after t) ≡ is.Awaiting path → state_in (thread_at before t) ≡ is.Awaiting path) → KnowsPaths after names named
  knows_fewer k fewer = record { known = λ t path e. k.known t path (fewer t path e) }

  pub knows_changed : (table : ProcessTable) (t : ℕ) (f : Thread → Thread) → AwaitsNoMore f → KnowsPaths table names named → KnowsPaths (change_thread table t f) names named
  knows_changed table t f still k = knows_fewer k (λ u path e. go u (u == t) refl path (sym (ap state_in (thread_at-change_thread table t u f)) ∙ e))
    where
      here : (o : Option Thread) (path : PathId) → state_in (option_map f o) ≡ is.Awaiting path → state_in o ≡ is.Awaiting path
      here None path e = e
      here (Some x) path e = still x path e

      go : (u : ℕ) (b : Bool) → (u == t) ≡ b → (path : PathId) → state_in (if b then option_map f (thread_at table t) else thread_at table u) ≡ is.Awaiting path → state_in (thread_at table u) ≡ is.Awaiting path
      go u true q path e = let same : u ≡ t = grind (arith, nat_tests) in ap (λ n. state_in (thread_at table n)) same ∙ here (thread_at table t) path e
      go u false q path e = e

  -- processes alone change
  pub knows_ended : (table : ProcessTable) (p : ℕ) → KnowsPaths table names named → KnowsPaths (end_process table p) names named
  knows_ended table p k = knows_fewer k (λ t path e. ap state_in (sym (thread_at-end_process table p t)) ∙ e)

  -- another thread, which waits for no path
  pub knows_added :
      (table : ProcessTable) (y : Thread) → ((path : PathId) → y.state ≡ is.Awaiting path → ⊥) → KnowsPaths table names named → KnowsPaths (record table { threads = table.threads ++ y ∷ [] }) names named
  knows_added table y none k = knows_fewer k (λ t path e. go (t == suc (length table.threads)) (thread_at table t) path (sym (ap state_in (at_number-push table.threads y t)) ∙ e))
    where
      go : (b : Bool) (o : Option Thread) (path : PathId) → state_in (if b then Some y else o) ≡ is.Awaiting path → state_in o ≡ is.Awaiting path
      go true o path e = absurd (none path e)
      go false o path e = e

  pub knows_left : (table : ProcessTable) (who : Leaving) (now : ℕ) (calls : List Call) → KnowsPaths table names named → KnowsPaths (left_threads who now calls table) names named
  knows_left table who now calls k = knows_fewer k (λ t path e. go (thread_at table t) path (sym (ap state_in (at_number-map (left_thread_of who now calls) table.threads t)) ∙ e))
    where
      go : (o : Option Thread) (path : PathId) → state_in (option_map (left_thread_of who now calls) o) ≡ is.Awaiting path → state_in o ≡ is.Awaiting path
      go None path e = e
      go (Some x) path e = left_still who now (find (is_served_by x.number) calls) x path e

-- no thread is there
pub knows_none : (table : ProcessTable) (names : List Name) (named : ThreadSet) → table.threads ≡ [] → KnowsPaths table names named
knows_none table names named none =
    record { known = λ t path e. absurd (not_awaiting path (sym (ap (λ xs. state_in (at_number xs t)) none ∙ nothing t) ∙ e)) }
  where
    nothing : (t : ℕ) → state_in (at_number [] t) ≡ is.Done
    nothing t = grind (arith, nat_tests)

-- a thread turns, and is noted
pub knows_turned :
    (table : ProcessTable) (names : List Name) (before after : ThreadSet) (t : ℕ) (s : ThreadState) → has after t ≡ is_found_at names s → ((u : ℕ) → u ≢ t → has after u ≡ has before u) →
    KnowsPaths table names before → KnowsPaths (set_thread_state table t s) names after
knows_turned table names before after t s here others k = record { known = known }
  where
    turned : (o : Option Thread) (path : PathId) → state_in (option_map (thread_at_state s) o) ≡ is.Awaiting path → is_found_at names s ≡ is_some (name_in names path)
    turned None path f = absurd (not_awaiting path f)
    turned (Some x) path f = ap (is_found_at names) f

    known : (u : ℕ) (path : PathId) → state_in (thread_at (set_thread_state table t s) u) ≡ is.Awaiting path → has after u ≡ is_some (name_in names path)
    known u path e = elim (cases_eq u t) [
      | inl same ↦
          ap (has after) same ∙ here
          ∙ turned (thread_at table t) path (sym (ap state_in (changed_here table t (thread_at_state s))) ∙ ap (λ n. state_in (thread_at (set_thread_state table t s) n)) (sym same) ∙ e)
      | inr n ↦ others u n ∙ k.known u path (sym (ap state_in (changed_elsewhere table t (thread_at_state s) u n)) ∙ e)
    ]

-- a thread more is asked
pub asked :
    (named now rest left : ThreadSet) (t u : ℕ) (found want : Bool) → has now u ≡ with_thread named t found u → has left u ≡ with_thread rest t false u →
    (has rest u ≡ false → has named u ≡ want) → (u ≡ t → found ≡ want) → has left u ≡ false → has now u ≡ want
asked named now rest left t u found want e h before here out = go (u == t) refl e h
  where
    go : (b : Bool) → (u == t) ≡ b → has now u ≡ (if b then found else has named u) → has left u ≡ (if b then false else has rest u) → has now u ≡ want
    go true q e h = e ∙ here (grind (arith, nat_tests))
    go false q e h = e ∙ before (sym h ∙ out)
