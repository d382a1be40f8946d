-- What is known of threads that wait at ports, as a thread changes or comes, and as references and ports do.
use Rattle.std.proofs.Common.{ℕ, suc, ◌≡◌, ◌≢◌, ◌==◌, ◌++◌, ◌∷◌, ◌&&◌, ◌||◌, not, [], Bool, true, false, List, Option, Some, None, find, length, option_map, if◌then◌else◌, inl, inr, refl, sym, ap, ◌∙◌, arith}
use Rattle.std.specs.List.{list_any}
use Rattle.std.proofs.lemmas.Bool.{cases_eq}
use Rattle.std.proofs.lemmas.Bool.Decides.{nat_tests}
use Rattle.dk_base.specs.ByNumber.{at_number}
use Rattle.dk_base.specs.declared.object.Obj.TheVariants as obj
use Rattle.spec_records.specs.declared.record.ThreadState.TheVariants as is
use Rattle.spec_records.specs.declared.record.CallStage.TheVariants as stage
use Rattle.spec_records.specs.Words.{Leaving, Port, ProcessTable, change_thread, count_object, deserted_at, deserted_in, idle_thread, interrupted_state, interrupted_where, is_left, is_ready_for, is_served_by, left_thread, left_thread_of, left_threads, port_of, set_thread_state, state_in, thread_at, thread_at_state, thread_in_invocation, thread_outside}
use Rattle.spec_records.proofs.Lists.{at_number-map, at_number-push}
use Rattle.spec_kernel.specs.Types.{Call, CallStage, Item, Name, Obj, Thread, ThreadState}
use Rattle.spec_kernel.proofs.Threads.{thread_at-change_thread}
use Rattle.law_calls.proofs.Free.{changed_elsewhere, changed_here}
use Rattle.proc_table.specs.Words.{is_getting}
use Rattle.dk_base.specs.declared.thread_set.ThreadSet.{ThreadSet}
use Rattle.dk_base.specs.Words.{has}
use Rattle.kernel_holdings.specs.Words.{ChangesOnly, HoldingsValue, references_of}
use Rattle.kernel_store.specs.Turning.{KnowsPorts, KnowsPortsIn, has_ended_at, has_ended_in, is_port}

-- a change after which a thread waits at no port as it did not wait before
abbrev pub GetsNoMore : (Thread → Thread) → Type 0
GetsNoMore f = (x : Thread) → is_getting (f x).state ≡ true → (f x).state ≡ x.state

pub idle_gets_not : (now : ℕ) → GetsNoMore (idle_thread now)
idle_gets_not now x e = absurd cc

pub entered_gets_not : (i : Item) → GetsNoMore (thread_in_invocation i)
entered_gets_not i x e = absurd cc

pub outside_gets_so : GetsNoMore thread_outside
outside_gets_so x e = refl

not_both : {b : Bool} → b ≡ false → b ≡ true → ⊥
not_both e f = absurd cc

pub turned_gets_not : (s : ThreadState) → is_getting s ≡ false → GetsNoMore (thread_at_state s)
turned_gets_not s none x e = absurd (not_both none e)

-- threads are interrupted, left and ended
left_gets_so : (who : Leaving) (now : ℕ) (served : Option Call) → GetsNoMore (left_thread who now served)
left_gets_so who now served x = ended (who.ends x.number)
  where
    interrupted : (s : ThreadState) → is_getting (interrupted_state s) ≡ true → interrupted_state s ≡ s
    interrupted (is.Getting port max nget one i) e = absurd cc
    interrupted s e = refl

    where_so : (b : Bool) → is_getting (interrupted_where b x).state ≡ true → (interrupted_where b x).state ≡ x.state
    where_so true e = interrupted x.state e
    where_so false e = refl

    at :
        (b : Bool) (no_cancel : Bool) (s : CallStage) → is_getting (deserted_at now no_cancel s (interrupted_where b x)).state ≡ true →
        (deserted_at now no_cancel s (interrupted_where b x)).state ≡ x.state
    at b no_cancel (stage.Given u) e = absurd cc
    at b true (stage.Entered u) e = where_so b e
    at b false (stage.Entered u) e = where_so b e
    at b no_cancel s e = where_so b e

    left :
        (l : Bool) (b : Bool) (r : Call) → is_getting (if l then deserted_at now r.no_cancel r.stage (interrupted_where b x) else interrupted_where b x).state ≡ true →
        (if l then deserted_at now r.no_cancel r.stage (interrupted_where b x) else interrupted_where b x).state ≡ x.state
    left true b r e = at b r.no_cancel r.stage e
    left false b r e = where_so b e

    deserted :
        (b : Bool) (o : Option Call) → is_getting (deserted_in who now o (interrupted_where b x)).state ≡ true → (deserted_in who now o (interrupted_where b x)).state ≡ x.state
    deserted b None e = where_so b e
    deserted b (Some r) e = left (is_left who r) b r e

    ended :
        (b : Bool) → is_getting (if b then record x { invocation = None; state = is.Done } else deserted_in who now served (interrupted_where (who.interrupts x.number) x)).state ≡ true →
        (if b then record x { invocation = None; state = is.Done } else deserted_in who now served (interrupted_where (who.interrupts x.number) x)).state ≡ x.state
    ended true e = absurd cc
    ended false e = deserted (who.interrupts x.number) served e

module _ {tables : List (List (Option Obj))} {names : List Name} {calls : List Call} {ports : List Port} {ended : ThreadSet} where
  -- no more threads wait at ports
  pub waits_fewer :
      {before after : ProcessTable} → KnowsPortsIn before tables names calls ports ended →
      ((t : ℕ) → is_getting (state_in (thread_at after t)) ≡ true → state_in (thread_at after t) ≡ state_in (thread_at before t)) → KnowsPortsIn after tables names calls ports ended
  waits_fewer k fewer = record { known = λ t e. k.known t (ap is_getting (sym (fewer t e)) ∙ e) ∙ ap (has_ended_in tables names calls ports) (sym (fewer t e)) }

  pub waits_changed :
      (table : ProcessTable) (t : ℕ) (f : Thread → Thread) → GetsNoMore f → KnowsPortsIn table tables names calls ports ended → KnowsPortsIn (change_thread table t f) tables names calls ports ended
  waits_changed table t f still k = waits_fewer k (λ u e. same u ∙ go u (u == t) refl (ap is_getting (sym (same u)) ∙ e))
    where
      same : (u : ℕ) → state_in (thread_at (change_thread table t f) u) ≡ state_in (if u == t then option_map f (thread_at table t) else thread_at table u)
      same u = ap state_in (thread_at-change_thread table t u f)

      here : (o : Option Thread) → is_getting (state_in (option_map f o)) ≡ true → state_in (option_map f o) ≡ state_in o
      here None e = refl
      here (Some x) e = still x e

      go : (u : ℕ) (b : Bool) → (u == t) ≡ b → is_getting (state_in (if b then option_map f (thread_at table t) else thread_at table u)) ≡ true →
          state_in (if b then option_map f (thread_at table t) else thread_at table u) ≡ state_in (thread_at table u)
      go u true q e = let same : t ≡ u = grind (arith, nat_tests) in here (thread_at table t) e ∙ ap (λ n. state_in (thread_at table n)) same
      go u false q e = refl

  -- another thread, which waits at no port
  pub waits_added :
      (table : ProcessTable) (y : Thread) → is_getting y.state ≡ false → KnowsPortsIn table tables names calls ports ended →
      KnowsPortsIn (record table { threads = table.threads ++ y ∷ [] }) tables names calls ports ended
  waits_added table y none k = waits_fewer k (λ t e. same t ∙ go (t == suc (length table.threads)) (thread_at table t) (ap is_getting (sym (same t)) ∙ e))
    where
      same : (t : ℕ) → state_in (at_number (table.threads ++ y ∷ []) t) ≡ state_in (if t == suc (length table.threads) then Some y else at_number table.threads t)
      same t = ap state_in (at_number-push table.threads y t)

      go : (b : Bool) (o : Option Thread) → is_getting (state_in (if b then Some y else o)) ≡ true → state_in (if b then Some y else o) ≡ state_in o
      go true o e = absurd (not_both none e)
      go false o e = refl

  pub waits_left : (table : ProcessTable) (who : Leaving) (now : ℕ) (left : List Call) → KnowsPortsIn table tables names calls ports ended → KnowsPortsIn (left_threads who now left table) tables names calls ports ended
  waits_left table who now left k = waits_fewer k (λ t e. same t ∙ go (thread_at table t) (ap is_getting (sym (same t)) ∙ e))
    where
      same : (t : ℕ) → state_in (thread_at (left_threads who now left table) t) ≡ state_in (option_map (left_thread_of who now left) (thread_at table t))
      same t = ap state_in (at_number-map (left_thread_of who now left) table.threads t)

      go : (o : Option Thread) → is_getting (state_in (option_map (left_thread_of who now left) o)) ≡ true → state_in (option_map (left_thread_of who now left) o) ≡ state_in o
      go None e = refl
      go (Some x) e = left_gets_so who now (find (is_served_by x.number) left) x e

-- no thread is there
pub waits_none :
    (table : ProcessTable) (tables : List (List (Option Obj))) (names : List Name) (calls : List Call) (ports : List Port) (ended : ThreadSet) → table.threads ≡ [] →
    KnowsPortsIn table tables names calls ports ended
waits_none table tables names calls ports ended none = record { known = λ t e. absurd (not_both (ap is_getting (nothing t)) (ap (λ xs. is_getting (state_in (at_number xs t))) (sym none) ∙ e)) }
  where
    nothing : (t : ℕ) → state_in (at_number [] t) ≡ is.Done
    nothing t = grind (arith, nat_tests)

-- a thread turns, and is noted
pub waits_turned :
    (table : ProcessTable) (held : HoldingsValue) (ports : List Port) (before after : ThreadSet) (t : ℕ) (s : ThreadState) → has after t ≡ has_ended_at held ports s →
    ((u : ℕ) → u ≢ t → has after u ≡ has before u) → KnowsPorts table held ports before → KnowsPorts (set_thread_state table t s) held ports after
waits_turned table held ports before after t s here others k = record { known = known }
  where
    turned : (o : Option Thread) → is_getting (state_in (option_map (thread_at_state s) o)) ≡ true → s ≡ state_in (option_map (thread_at_state s) o)
    turned None e = absurd cc
    turned (Some x) e = refl

    known : (u : ℕ) → is_getting (state_in (thread_at (set_thread_state table t s) u)) ≡ true → has after u ≡ has_ended_at held ports (state_in (thread_at (set_thread_state table t s) u))
    known u e = elim (cases_eq u t) [
      | inl same ↦
          let there : state_in (thread_at (set_thread_state table t s) u) ≡ state_in (option_map (thread_at_state s) (thread_at table t)) =
          ap (λ n. state_in (thread_at (set_thread_state table t s) n)) same ∙ ap state_in (changed_here table t (thread_at_state s)) in
          ap (has after) same ∙ here ∙ ap (has_ended_at held ports) (turned (thread_at table t) (ap is_getting (sym there) ∙ e) ∙ sym there)
      | inr n ↦
          let there = ap state_in (changed_elsewhere table t (thread_at_state s) u n) in
          others u n ∙ k.known u (ap is_getting (sym there) ∙ e) ∙ ap (has_ended_at held ports) (sym there)
    ]

-- all are asked
pub waits_anew :
    (table : ProcessTable) (held : HoldingsValue) (ports : List Port) (ended : ThreadSet) → ((t : ℕ) → has ended t ≡ has_ended_at held ports (state_in (thread_at table t))) →
    KnowsPorts table held ports ended
waits_anew table held ports ended all = record { known = λ t e. all t }

-- no reference of a port comes or goes
pub waits_kept :
    (table : ProcessTable) (before after : HoldingsValue) (ports : List Port) (ended : ThreadSet) → ((q : ℕ) → references_of after (obj.Port q) ≡ references_of before (obj.Port q)) →
    KnowsPorts table before ports ended → KnowsPorts table after ports ended
waits_kept table before after ports ended same k = record { known = λ t e. k.known t e ∙ go (state_in (thread_at table t)) }
  where
    go : (s : ThreadState) → has_ended_at before ports s ≡ has_ended_at after ports s
    go (is.Getting q max nget one i) = ap (λ n. not i && ((n == 0) || is_ready_for nget (port_of ports q))) (sym (same q))
    go s = refl

-- references come and go of objects among which there is no port

pub no_port : (objects : List Obj) → list_any is_port objects ≡ false → (q : ℕ) → count_object (obj.Port q) objects ≡ 0
no_port [] none q = refl
no_port (obj.Port p ∷ os) none q = absurd cc
no_port (obj.Door d ∷ os) none q = no_port os none q
no_port (obj.PipeIn n ∷ os) none q = no_port os none q
no_port (obj.PipeOut n ∷ os) none q = no_port os none q

pub one_port : (object : Obj) (b : Bool) → b ≡ is_port object → b ≡ list_any is_port (object ∷ [])
one_port (obj.Port p) b e = e
one_port (obj.Door d) b e = e
one_port (obj.PipeIn n) b e = e
one_port (obj.PipeOut n) b e = e

-- they follow others, of which some may be ports

second_false : (a b : Bool) → (a || b) ≡ false → b ≡ false
second_false true b h = cc
second_false false b h = h

none_after : (os more : List Obj) → list_any is_port (os ++ more) ≡ false → list_any is_port more ≡ false
none_after [] more h = h
none_after (o ∷ os) more h = none_after os more (second_false (is_port o) (list_any is_port (os ++ more)) h)

pub passed_port : (objects more all : List Obj) (b : Bool) → b ≡ list_any is_port all → all ≡ objects ++ more → b ≡ false → list_any is_port more ≡ false
passed_port objects more all b is all_are none = none_after objects more (sym (ap (list_any is_port) all_are) ∙ sym is ∙ none)

pub others_kept :
    (before after : HoldingsValue) (objects : List Obj) (b : Bool) → b ≡ list_any is_port objects → ChangesOnly objects before after →
    b ≡ false → (q : ℕ) → references_of after (obj.Port q) ≡ references_of before (obj.Port q)
others_kept before after objects b is only none q = only (obj.Port q) (no_port objects (sym is ∙ none) q)

-- what is known of a thread that waits at a port is whether its wait can end
pub wait_is :
    (tables : List (List (Option Obj))) (names : List Name) (calls : List Call) (ports : List Port) (ended : Bool) (s : ThreadState) →
    (is_getting s ≡ true → ended ≡ has_ended_in tables names calls ports s) → (is_getting s && ended) ≡ has_ended_in tables names calls ports s
wait_is tables names calls ports ended (is.Getting q max nget one true) h = refl
wait_is tables names calls ports ended (is.Getting q max nget one false) h = h refl
wait_is tables names calls ports ended s h = refl
