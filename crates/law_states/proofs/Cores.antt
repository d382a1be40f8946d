-- Each writer of a state as a change of its core.
use Rattle.std.specs.Prelude.{ℕ, ◌≡◌, Option, Bool, true, false, ◌==◌, if◌then◌else◌, Some, None, is_some, find, length}
use Rattle.std.proofs.Common.{refl, sym, ap, subst, ◌∙◌}
use native.Mathlib.Omega.{arith}
use Rattle.std.proofs.lemmas.Bool.Decides.{nat_tests}
use Rattle.spec_kernel.specs.Types.{Call, Inv, Item, NoticeStage, Thread, ThreadState}
use Rattle.spec_records.specs.declared.record.ThreadState.TheVariants as is
use Rattle.spec_records.specs.Words.{CallTree, NoticeList, ProcessTable, change_thread, end_invocation, enter_thread, idle_thread, invocation_in, new_invocation, park_thread, process_in, set_thread_state, state_in, thread_at, thread_at_state, thread_in_invocation, thread_outside}
use Rattle.dk_base.specs.ByNumber.{at_number}
use Rattle.spec_records.proofs.Lists.{same_length}
use Rattle.spec_kernel.specs.Words.{State}
use Rattle.law_states.specs.Records.{has_notice_number, has_number}
use Rattle.law_states.specs.Core.{Core, core, notice_in, noticed_door_in, number_in}
use Rattle.spec_kernel.proofs.Invocations.{invocation-enter_thread, invocation-park_thread, invocation-set_thread_state, invocation-without}
use Rattle.spec_kernel.proofs.Threads.{map-change_thread, processes-change_thread, thread_at-change_thread}

abbrev pub upd : {X : Type 0} → (ℕ → X) → ℕ → X → ℕ → X
upd f i x j = if j == i then x else f j

-- records at each number in a relation, where one of them changes and the others stay
pub at_one :
    {X : Type 0} (R : Option X → Option X → Type 0) → ((o : Option X) → R o o) → (i : ℕ) (x : X) (o : Option X) (f g : ℕ → Option X) →
    ((c : ℕ) → g c ≡ upd f i (Some x) c) → f i ≡ o → R o (Some x) → (c : ℕ) → R (f c) (g c)
at_one {X} R stays i x o f g e there b c = subst (R (f c)) (sym (e c)) (go (c == i) refl)
  where
    go : (h : Bool) → (c == i) ≡ h → R (f c) (if h then Some x else f c)
    go true h =
        let same : c ≡ i = grind (arith, nat_tests) in
        subst (λ p. R p (Some x)) (sym (ap f same ∙ there)) b
    go false h = stays (f c)

abbrev pub set_role : Core → ℕ → ThreadState → Core
set_role k t s = record k { role = upd k.role t s }

abbrev pub set_serves : Core → ℕ → Option Inv → Core
set_serves k t v = record k { serves = upd k.serves t v }

abbrev pub set_call : Core → ℕ → Call → Core
set_call k c r = record k { call = upd k.call c (Some r) }

abbrev pub set_new_call : Core → Call → Core
set_new_call k r = record k { call = upd k.call r.number (Some r); made = r.number }

-- one thread turns to a state, and then this is what threads serve

pub record Turns (a b : ProcessTable) (t : ℕ) (s : ThreadState) (serves : ℕ → Option Inv) : Type 0 where
  pub role : (u : ℕ) → state_in (thread_at b u) ≡ upd (λ v. state_in (thread_at a v)) t s u
  pub invocation : (u : ℕ) → invocation_in (thread_at b u) ≡ serves u
  pub process : (u : ℕ) → process_in (thread_at b u) ≡ process_in (thread_at a u)
  pub number : (u : ℕ) → number_in (thread_at b u) ≡ number_in (thread_at a u)
  pub processes : b.processes ≡ a.processes
  pub length : length b.threads ≡ length a.threads

-- a thread of this number is there
abbrev pub IsThere : ProcessTable → ℕ → Type 0
IsThere table t = is_some (thread_at table t) ≡ true

change_turns :
    (table : ProcessTable) (t : ℕ) (change : Thread → Thread) (s : ThreadState) (serves : ℕ → Option Inv) → IsThere table t →
    ((x : Thread) → thread_at table t ≡ Some x → (change x).state ≡ s) → ((x : Thread) → (change x).process ≡ x.process) →
    ((x : Thread) → (change x).number ≡ x.number) → ((u : ℕ) → invocation_in (thread_at (change_thread table t change) u) ≡ serves u) →
    Turns table (change_thread table t change) t s serves
change_turns table t change s serves there state process number invocations =
    record {
      role = λ u. grind (arith, nat_tests, thread_at-change_thread table t u change, state);
      invocation = invocations;
      process = λ u. grind (arith, nat_tests, thread_at-change_thread table t u change, process);
      number = λ u. grind (arith, nat_tests, thread_at-change_thread table t u change, number);
      processes = processes-change_thread table t change;
      length = same_length (λ (x : Thread). x.number) _ _ (map-change_thread (λ (x : Thread). x.number) table t change number);
    }

pub set_thread_state-turns :
    (table : ProcessTable) (t : ℕ) (s : ThreadState) → IsThere table t →
    Turns table (set_thread_state table t s) t s (λ u. invocation_in (thread_at table u))
set_thread_state-turns table t s there =
    change_turns table t (thread_at_state s) s _ there (λ x e. refl) (λ x. refl) (λ x. refl) (λ u. invocation-set_thread_state table t u s)

pub enter_thread-turns :
    (table : ProcessTable) (t : ℕ) (i : Item) → IsThere table t →
    Turns table (enter_thread table t i) t is.Running (upd (λ u. invocation_in (thread_at table u)) t (Some (new_invocation i)))
enter_thread-turns table t i there =
    change_turns table t (thread_in_invocation i) is.Running _ there (λ x e. refl) (λ x. refl) (λ x. refl)
    (λ u. invocation-enter_thread table t u i ∙ grind arith)

pub park_thread-turns :
    (table : ProcessTable) (t now : ℕ) → IsThere table t →
    Turns table (park_thread table t now) t (is.Idle now) (upd (λ u. invocation_in (thread_at table u)) t None)
park_thread-turns table t now there =
    change_turns table t (idle_thread now) (is.Idle now) _ there (λ x e. refl) (λ x. refl) (λ x. refl) (invocation-park_thread table t now)

-- a thread that runs goes on without its invocation
pub end_invocation-turns :
    (table : ProcessTable) (t : ℕ) → state_in (thread_at table t) ≡ is.Running →
    Turns table (end_invocation table t) t is.Running (upd (λ u. invocation_in (thread_at table u)) t None)
end_invocation-turns table t e =
    change_turns table t thread_outside is.Running _ (grind arith) (λ x f. grind arith) (λ x. refl) (λ x. refl)
    (λ u. invocation-without table t u thread_outside (λ x. refl))

-- an act that changes a thread, calls and the stages of notices
pub act-core :
    (m : State) (b : ProcessTable) (tree : CallTree) (list : NoticeList) (t : ℕ) (s : ThreadState) (serves : ℕ → Option Inv)
    (call : ℕ → Option Call) (notice : ℕ → Option NoticeStage) → Turns m.process_table b t s serves →
    ((c : ℕ) → find (has_number c) tree.calls ≡ call c) → ((n : ℕ) → notice_in (find (has_notice_number n) list.notices) ≡ notice n) →
    ((n : ℕ) → noticed_door_in (find (has_notice_number n) list.notices) ≡ (core m).noticed_door n) →
    core (record m { process_table = b; call_tree = tree; notice_list = list })
    ≡ record (core m) { role = upd (core m).role t s; serves = serves; call = call; made = tree.made; notice = notice }
act-core m b tree list t s serves call notice h g i d =
    λ j. record (core m) {
      role = λ u. h.role u j;
      serves = λ u. h.invocation u j;
      process = λ u. h.process u j;
      number = λ u. h.number u j;
      proc = λ p. ap (λ xs. at_number xs p) h.processes j;
      call = λ c. g c j;
      made = tree.made;
      notice = λ n. i n j;
      noticed_door = λ n. d n j;
    }
