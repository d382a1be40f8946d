-- What a fork does: who is interrupted, which threads run, and which process begins.
use Rattle.std.specs.Prelude.{ℕ, ◌≡◌, ◌+◌, ◌<◌, ◌≤◌, ◌==◌, ◌&&◌, ◌⊎◌, List, Option, Bool, true, false, if◌then◌else◌, not, Some, None, get_or, length, position, slice_get, suc, zero}
use Rattle.std.specs.List.{position_or_len}
use Rattle.std.specs.Option.{option_map}
use Rattle.std.proofs.Common.{refl, sym, ap, true≢false, ◌∙◌, inl, inr}
use native.Mathlib.Omega.{arith}
use Rattle.std.proofs.lemmas.Bool.Decides.{nat_tests}
use Rattle.std.proofs.lemmas.List.Quantifiers.{position-Some}
use Rattle.std.proofs.lemmas.List.Sums.{fails_before_first}
use Rattle.std.proofs.lemmas.Option.{get_or_from_slice_get, slice_get-get_or, slice_get_within}
use Rattle.spec_kernel.specs.Types.{Pid, Process, Thread}
use Rattle.dk_base.specs.ByNumber.{at_number}
use Rattle.dk_base.specs.declared.request.Request.TheVariants as request
use Rattle.dk_base.specs.declared.answer.Answer.TheVariants as answer
use Rattle.spec_records.specs.declared.record.ThreadState.TheVariants as is
use Rattle.spec_records.specs.Words.{ProcessTable, begun_thread, first_place, first_refusal, forking, invocation_in, is_calling, is_fellow_caller, is_first_of, is_spare_in, is_unborn_in, left_thread_of, live_process, new_thread, process_in, state_in, thread_at, thread_at_state}
use Rattle.spec_records.proofs.Lists.{at_number-map, at_number-suc}
use Rattle.spec_kernel.specs.Words.{State, Turn, effect, fork, forking_tests, invocation_of, is_unborn_process, leave, now, process_of, state_at, state_of, step, thread_of, unless_refused}
use Rattle.spec_kernel.proofs.Moves.{IsFree}
use Rattle.spec_kernel.proofs.Threads.{at_number-begin_process, left_thread_of-same, thread_at-begin_process}
use Rattle.law_states.specs.Core.{ended_in}
use Rattle.law_states.specs.Invariant.{Invariant}
use Rattle.law_runs.specs.Rows.{Forks}
use Rattle.law_runs.proofs.Tables.{not_refused}

-- which process begins

pub was_unborn : (m : State) (child : ℕ) → first_refusal (forking_tests m child) ≡ None → is_unborn_process m child ≡ true
was_unborn m child f = grind arith

-- a Fork that is not refused answers its child, and no other does

pub free_answers :
    (m : State) (t : ℕ) (child : Pid) → IsFree m t (request.Fork child) → (step m t (Some (request.Fork child))).answer ≡ answer.Child child
unfolding step
free_answers m t child f = ap (λ o. (unless_refused m o (effect m t (process_of m t) (request.Fork child))).answer) f

pub fork_is_free :
    (m : State) (xs : List Turn) (i : ℕ) (x : Turn) (child : Pid) → Forks m xs i x child →
    IsFree (state_at m xs i) x.thread (request.Fork child)
fork_is_free m xs i x child f =
    not_refused (state_at m xs i) x.thread x.request (request.Fork child) (answer.Child child) f.asked f.answered (λ y h. cc)

pub forks_there :
    (m : State) (xs : List Turn) (i : ℕ) (x : Turn) (child : Pid) → x.request ≡ Some (request.Fork child) →
    first_refusal (forking_tests (state_at m xs i) child.0) ≡ None → Forks m xs i x child
forks_there m xs i x child q f =
    record {
      asked = q;
      answered = ap (λ r. (step (state_at m xs i) x.thread r).answer) q ∙ free_answers (state_at m xs i) x.thread child f;
    }

-- who is interrupted waits for a call
pub no_fellow : (m : State) (t u : ℕ) → is_calling (state_of m u) ≡ false → is_fellow_caller m.process_table t u ≡ false
no_fellow m t u e = by (u == t) (process_of m u == process_of m t) (is_calling (state_of m u)) e
  where
    by : (a b d : Bool) → d ≡ false → (not a && (b && d)) ≡ false
    by true b d f = refl
    by false false d f = refl
    by false true d f = f

-- threads

-- the first thread of a child is the least one that is no spare

pub record IsFirst (table : ProcessTable) (child u : ℕ) : Type 0 where
  pub thread : Thread
  pub there : thread_at table u ≡ Some thread
  pub first : is_first_of child thread ≡ true
  pub least : (v : ℕ) (y : Thread) → thread_at table v ≡ Some y → is_first_of child y ≡ true → u ≤ v

pub first_there : (table : ProcessTable) (child place : ℕ) → first_place table child ≡ Some place → IsFirst table child (place + 1)
first_there table child place e =
    let h = position-Some (is_first_of child) table.threads place (new_thread 0 0 true) e in
    record {
      thread = _;
      there =
          ap (at_number table.threads) next ∙ at_number-suc table.threads place
          ∙ slice_get-get_or table.threads place (new_thread 0 0 true) h.0;
      first = h.1;
      least = least h.2;
    }
  where
    next : place + 1 ≡ suc place
    next = omega arith

    split : (k n : ℕ) → (k < n) ⊎ (n ≤ k)
    split k n = grind arith

    -- none stands before it
    least :
        ((k : ℕ) → k < place → is_first_of child (get_or table.threads k (new_thread 0 0 true)) ≡ false) → (v : ℕ) (y : Thread) →
        thread_at table v ≡ Some y → is_first_of child y ≡ true → place + 1 ≤ v
    least none zero y f g = absurd (cc f)
    least none (suc k) y f g = go (split k place)
      where
        found : slice_get table.threads k ≡ Some y
        found = sym (at_number-suc table.threads k) ∙ f

        go : (k < place) ⊎ (place ≤ k) → place + 1 ≤ suc k
        go (inl l) =
            absurd
            (true≢false
            (sym g
            ∙ ap (is_first_of child) (sym (get_or_from_slice_get table.threads k y (new_thread 0 0 true) found))
            ∙ none k l))
        go (inr l) = omega (arith, l)

-- and there is one where a thread is no spare

none_passes : {X : Type 0} (p : X → Bool) (xs : List X) (k : ℕ) (x : X) → slice_get xs k ≡ Some x → p x ≡ true → position p xs ≡ None → ⊥
none_passes p xs k x e f none =
    let within : k < length xs = slice_get_within xs k x e in
    go (split (position_or_len p xs) k) within
  where
    split : (n k : ℕ) → (n ≤ k) ⊎ (k < n)
    split n k = grind arith

    go : (position_or_len p xs ≤ k) ⊎ (k < position_or_len p xs) → k < length xs → ⊥
    go (inl l) within = absurd (grind (arith, nat_tests))
    go (inr l) within =
        true≢false (sym f ∙ ap p (sym (get_or_from_slice_get xs k x x e)) ∙ fails_before_first p xs k x l)

pub first_found :
    (table : ProcessTable) (child u : ℕ) (x : Thread) → thread_at table u ≡ Some x → is_first_of child x ≡ true →
    (place : ℕ) × (first_place table child ≡ Some place)
first_found table child zero x e f = absurd (cc e)
first_found table child (suc k) x e f = go (first_place table child) refl
  where
    go : (o : Option ℕ) → first_place table child ≡ o → (place : ℕ) × (first_place table child ≡ Some place)
    go None g = absurd (none_passes (is_first_of child) table.threads k x (sym (at_number-suc table.threads k) ∙ e) f g)
    go (Some place) g = (place, g)

pub first_process : (table : ProcessTable) (child u : ℕ) → IsFirst table child u → process_in (thread_at table u) ≡ child
first_process table child u f = ap process_in f.there ∙ grind (arith, nat_tests, f.first)

begun_or_not :
    (child : ℕ) (o : Option Thread) →
    (state_in (option_map (begun_thread child) o) ≡ state_in o)
    ⊎ ((process_in o ≡ child) × (state_in (option_map (begun_thread child) o) ≡ is.Running))
begun_or_not child None = inl refl
begun_or_not child (Some x) = go (x.process.0 == child) (not x.spare) refl
  where
    go :
        (a b : Bool) → (x.process.0 == child) ≡ a →
        ((if a && b then thread_at_state is.Running x else x).state ≡ x.state)
        ⊎ ((x.process.0 ≡ child) × ((if a && b then thread_at_state is.Running x else x).state ≡ is.Running))
    go true true e = inr (grind (arith, nat_tests), refl)
    go true false e = inl refl
    go false b e = inl refl

begun_invocation : (child : ℕ) (o : Option Thread) → invocation_in (option_map (begun_thread child) o) ≡ invocation_in o
begun_invocation child None = refl
begun_invocation child (Some x) = go (is_first_of child x)
  where
    go : (b : Bool) → (if b then thread_at_state is.Running x else x).invocation ≡ x.invocation
    go true = refl
    go false = refl

begun_process : (child : ℕ) (o : Option Thread) → process_in (option_map (begun_thread child) o) ≡ process_in o
begun_process child None = refl
begun_process child (Some x) = go (is_first_of child x)
  where
    go : (b : Bool) → (if b then thread_at_state is.Running x else x).process.0 ≡ x.process.0
    go true = refl
    go false = refl

left_process : (m : State) (t u : ℕ) → process_of (leave m (forking m.process_table t)) u ≡ process_of m u
left_process m t u =
    ap process_in (at_number-map (left_thread_of (forking m.process_table t) (now m) m.call_tree.calls) m.process_table.threads u)
    ∙ go (thread_of m u)
  where
    go :
        (o : Option Thread) →
        process_in (option_map (left_thread_of (forking m.process_table t) (now m) m.call_tree.calls) o) ≡ process_in o
    go None = refl
    go (Some x) =
        left_thread_of-same (λ (y : Thread). y.process.0) (λ v s y. refl) (forking m.process_table t) (now m) m.call_tree.calls x

left_spare : (m : State) (t u : ℕ) → is_spare_in (thread_of (leave m (forking m.process_table t)) u) ≡ is_spare_in (thread_of m u)
left_spare m t u =
    ap is_spare_in (at_number-map (left_thread_of (forking m.process_table t) (now m) m.call_tree.calls) m.process_table.threads u)
    ∙ go (thread_of m u)
  where
    go :
        (o : Option Thread) →
        is_spare_in (option_map (left_thread_of (forking m.process_table t) (now m) m.call_tree.calls) o) ≡ is_spare_in o
    go None = refl
    go (Some x) =
        left_thread_of-same (λ (y : Thread). y.spare) (λ v s y. refl) (forking m.process_table t) (now m) m.call_tree.calls x

module _ (m : State) (t p child u : ℕ) where
  abbrev left_one : Option Thread
  left_one = thread_of (leave m (forking m.process_table t)) u

  thread_after : thread_of (fork m t p child).state u ≡ option_map (begun_thread child) left_one
  thread_after = thread_at-begin_process (leave m (forking m.process_table t)).process_table child u

  -- an invocation is as where callers leave
  pub fork_invocation : invocation_of (fork m t p child).state u ≡ invocation_of (leave m (forking m.process_table t)) u
  fork_invocation = ap invocation_in thread_after ∙ begun_invocation child left_one

  pub fork_process_of : process_of (fork m t p child).state u ≡ process_of m u
  fork_process_of = ap process_in thread_after ∙ begun_process child left_one ∙ left_process m t u

  -- a thread is as where callers leave, or was Dormant and runs
  pub fork_state :
      Invariant m → is_unborn_process m child ≡ true →
      (state_of (fork m t p child).state u ≡ state_of (leave m (forking m.process_table t)) u)
      ⊎ ((state_of m u ≡ is.Dormant) × (state_of (fork m t p child).state u ≡ is.Running))
  fork_state h unborn = go (begun_or_not child left_one)
    where
      go :
          (state_in (option_map (begun_thread child) left_one) ≡ state_in left_one)
          ⊎ ((process_in left_one ≡ child) × (state_in (option_map (begun_thread child) left_one) ≡ is.Running)) →
          (state_of (fork m t p child).state u ≡ state_of (leave m (forking m.process_table t)) u)
          ⊎ ((state_of m u ≡ is.Dormant) × (state_of (fork m t p child).state u ≡ is.Running))
      go (inl e) = inl (ap state_in thread_after ∙ e)
      go (inr e) =
          inr (
            h.consistent.coherent.processes.unborn_dormant u
                (ap (is_unborn_process m) (sym (left_process m t u) ∙ e.0) ∙ unborn),
            ap state_in thread_after ∙ e.1,
          )

  -- a spare is as where callers leave
  pub fork_rests :
      is_spare_in (thread_of m u) ≡ true → state_of (fork m t p child).state u ≡ state_of (leave m (forking m.process_table t)) u
  fork_rests spare = ap state_in thread_after ∙ not_begun left_one (left_spare m t u ∙ spare)
    where
      not_begun : (o : Option Thread) → is_spare_in o ≡ true → state_in (option_map (begun_thread child) o) ≡ state_in o
      not_begun None e = refl
      not_begun (Some x) e = go (x.process.0 == child) x.spare e
        where
          go : (a b : Bool) → b ≡ true → (if a && not b then thread_at_state is.Running x else x).state ≡ x.state
          go true true f = refl
          go false true f = refl
          go a false f = absurd (cc f)

  -- one that is no spare of the child runs
  pub fork_runs : (x : Thread) → thread_of m u ≡ Some x → is_first_of child x ≡ true → state_of (fork m t p child).state u ≡ is.Running
  fork_runs x e f =
      ap state_in thread_after
      ∙ ap (λ o. state_in (option_map (begun_thread child) o))
      (at_number-map (left_thread_of (forking m.process_table t) (now m) m.call_tree.calls) m.process_table.threads u
      ∙ ap (option_map (left_thread_of (forking m.process_table t) (now m) m.call_tree.calls)) e)
      ∙ go
      (left_thread_of-same (is_first_of child) (λ v s y. refl) (forking m.process_table t) (now m) m.call_tree.calls x ∙ f)
    where
      go : is_first_of child (left_thread_of (forking m.process_table t) (now m) m.call_tree.calls x) ≡ true →
          (begun_thread child (left_thread_of (forking m.process_table t) (now m) m.call_tree.calls x)).state ≡ is.Running
      go g =
          ap
          (λ (b : Bool). (if b then thread_at_state is.Running (left_thread_of (forking m.process_table t) (now m) m.call_tree.calls x) else left_thread_of (forking m.process_table t) (now m) m.call_tree.calls x).state)
          g

-- processes

begun_not_ended : (o : Option Process) → ended_in (option_map live_process o) ≡ false
begun_not_ended None = refl
begun_not_ended (Some x) = refl

module _ (m : State) (t p child e : ℕ) where
  pub fork_process :
      at_number (fork m t p child).state.process_table.processes e
      ≡ (if e == child then option_map live_process (at_number m.process_table.processes child) else at_number m.process_table.processes e)
  fork_process = at_number-begin_process (leave m (forking m.process_table t)).process_table child e

  -- no process that begins has ended, and none ends by it
  pub fork_ends :
      is_unborn_process m child ≡ true →
      ended_in (at_number (fork m t p child).state.process_table.processes e) ≡ ended_in (at_number m.process_table.processes e)
  fork_ends unborn = ap ended_in fork_process ∙ go (e == child) refl
    where
      not_ended : (o : Option Process) → is_unborn_in o ≡ true → ended_in o ≡ false
      not_ended o f = grind arith

      go :
          (b : Bool) → (e == child) ≡ b →
          ended_in
          (if b then option_map live_process (at_number m.process_table.processes child) else at_number m.process_table.processes e)
          ≡ ended_in (at_number m.process_table.processes e)
      go true f =
          let same : child ≡ e = grind (arith, nat_tests) in
          begun_not_ended (at_number m.process_table.processes child)
          ∙ sym (ap (λ n. ended_in (at_number m.process_table.processes n)) (sym same) ∙ not_ended _ unborn)
      go false f = refl
