-- A thread's invocation stays as it is over an event, begins at an accept of its own, ends at a Return of its own, has its flag set
-- where its client leaves, or leaves with its thread.
use Rattle.std.specs.Prelude.{ℕ, ◌≡◌, ◌&&◌, List, Option, Bool, true, false, ◌==◌, if◌then◌else◌, Some, None}
use Rattle.std.proofs.Common.{refl, sym, ap, subst, ◌∙◌}
use native.Mathlib.Omega.{arith}
use Rattle.std.proofs.lemmas.Bool.Decides.{nat_tests}
use Rattle.spec_kernel.specs.Types.{Call, Inv, Item, Pass, Request}
use Rattle.dk_base.specs.declared.error.Errno.TheVariants.{EINVAL}
use Rattle.dk_base.specs.declared.object.Item.TheVariants as item
use Rattle.dk_base.specs.declared.request.Request.TheVariants as request
use Rattle.dk_base.specs.declared.answer.Answer.TheVariants as answer
use Rattle.spec_records.specs.declared.record.ThreadState.TheVariants as is
use Rattle.spec_records.specs.Words.{first_refusal, invocation_in, new_invocation, thread_at, thread_outside, enter_thread}
use Rattle.spec_kernel.specs.Words.{ActResult, MayTurn, State, act, fail_begin, invocation_of, now, process_of, return_answer, return_tests, settle, state_of, step, with_event_counted}
use Rattle.spec_kernel.proofs.Invocations.{invocation-enter_thread, invocation-park_thread, invocation-set_thread_state, invocation-without}
use Rattle.spec_kernel.proofs.Moves.{Moves, act_moves}
use Rattle.spec_kernel.proofs.Moves.IsLeaving.{interrupts, exits}
use Rattle.law_states.specs.Core.{is_outside}
use Rattle.law_states.specs.Invariant.{IsConsistent, Invariant}
use Rattle.law_states.specs.Events.{Begins, InvocationArrow}
use Rattle.law_states.specs.Events.InvocationArrow.{stays, begins, ends}
use Rattle.law_states.proofs.Consistent.{there}
use Rattle.law_states.proofs.Leaving.{interrupt_leaves, thread_leaves, revoke_leaves, process_leaves}
use Rattle.law_states.proofs.Beginning.{fork_leaves}
use Rattle.law_states.proofs.Later.{serves_later}
use Rattle.law_states.proofs.Steps.{StepDoes, step_does, running_is, same_done}

-- the invocation of thread u, over an act of thread t
abbrev Serves : State → ℕ → Option Request → ActResult → ℕ → Type 0
Serves m t q a u = InvocationArrow m t q a.answer a.state u (invocation_of m u) (invocation_of a.state u)

kept :
    (m : State) (t : ℕ) (q : Option Request) (a : ActResult) (u : ℕ) → invocation_of a.state u ≡ invocation_of m u →
    Serves m t q a u
kept m t q a u e =
    subst (λ o. InvocationArrow m t q a.answer a.state u (invocation_of m u) o) (sym e) stays

-- the invocation of the thread whose act it is becomes this one
one_serves :
    (m : State) (t : ℕ) (q : Option Request) (a : ActResult) (v : Option Inv) →
    ((u : ℕ) → invocation_of a.state u ≡ (if u == t then v else invocation_of m u)) →
    InvocationArrow m t q a.answer a.state t (invocation_of m t) v → (u : ℕ) → Serves m t q a u
one_serves m t q a v after own u = subst (InvocationArrow m t q a.answer a.state u (invocation_of m u)) (sym (after u)) (go (u == t) refl)
  where
    go : (b : Bool) → (u == t) ≡ b → InvocationArrow m t q a.answer a.state u (invocation_of m u) (if b then v else invocation_of m u)
    go true e =
        let same : t ≡ u = grind (arith, nat_tests) in
        subst (λ (j : ℕ). InvocationArrow m t q a.answer a.state j (invocation_of m j) v) same own
    go false e = stays

-- a Return ends an invocation
return_serves :
    (m : State) (t : ℕ) (bytes : List ℕ) (pass : List Pass) (a : ActResult) →
    first_refusal (return_tests m t (process_of m t) bytes pass) ≡ None → a.answer ≡ return_answer m t →
    ((u : ℕ) → invocation_of a.state u ≡ (if u == t then None else invocation_of m u)) → (u : ℕ) → Serves m t (Some (request.Return bytes pass)) a u
return_serves m t bytes pass a free e left = one_serves m t (Some (request.Return bytes pass)) a None left (own (invocation_of m t))
  where
    own : (v : Option Inv) → InvocationArrow m t (Some (request.Return bytes pass)) a.answer a.state t v None
    own None = stays
    own (Some v) = ends v bytes pass refl refl free e

-- the accept of a call or of a notice begins an invocation

serves_after_accept :
    (m : State) (t u : ℕ) (i : Item) → state_of m t ≡ is.Given i →
    invocation_in (thread_at (enter_thread m.process_table t i) u)
    ≡ (if u == t then Some (new_invocation i) else invocation_of m u)
serves_after_accept m t u i e =
    invocation-enter_thread m.process_table t u i
    ∙ ap (λ (b : Bool). if (u == t) && b then Some (new_invocation i) else invocation_of m u) (there m t (λ z. grind arith))
    ∙ grind arith

-- a thread that was given an item has no invocation before it
free_of : (m : State) (t : ℕ) (i : Item) → IsConsistent m → state_of m t ≡ is.Given i → invocation_of m t ≡ None
free_of m t i h e = h.coherent.servers.outside t (ap is_outside e)

-- and that of the item after it
begun_serves :
    (m : State) (t : ℕ) (i : Item) (a : ActResult) → IsConsistent m → state_of m t ≡ is.Given i → Begins a.answer i →
    ((u : ℕ) → invocation_of a.state u ≡ (if u == t then Some (new_invocation i) else invocation_of m u)) → (u : ℕ) → Serves m t None a u
begun_serves m t i a h e b after =
    one_serves m t None a (Some (new_invocation i)) after
    (subst (λ o. InvocationArrow m t None a.answer a.state t o (Some (new_invocation i))) (sym (free_of m t i h e)) (begins i refl refl e b))

-- where an accept fails a thread has none, as before
failed_serves :
    (m : State) (t : ℕ) (r : Call) → IsConsistent m → state_of m t ≡ is.Given (item.Call r.number) → (u : ℕ) → Serves m t None (fail_begin m t r.number r) u
failed_serves m t r h e =
    one_serves m t None _ None (invocation-park_thread m.process_table t (now m))
    (subst (λ o. InvocationArrow m t None (fail_begin m t r.number r).answer (fail_begin m t r.number r).state t o None) (sym (free_of m t _ h e)) stays)

move_serves :
    (m : State) (t : ℕ) (q : Option Request) (a : ActResult) → IsConsistent m → MayTurn m t q → Moves m t q a → (u : ℕ) → Serves m t q a u
move_serves m t q a h may (Moves.turns s x _ _) u = kept m t q a u (invocation-set_thread_state m.process_table t u s)
move_serves m t q a h may (Moves.calls fd bytes pass rsize f) u = kept m t q a u (invocation-set_thread_state m.process_table t u _)
move_serves m t q a h may (Moves.returns bytes pass f e) u =
    return_serves m t bytes pass a f (sym (ap (λ (b : Bool). if b then answer.Failure EINVAL else answer.Wait) e))
    (invocation-park_thread m.process_table t (now m)) u
move_serves m t q a h may (Moves.returns_unbound bytes pass f e) u =
    return_serves m t bytes pass a f (sym (ap (λ (b : Bool). if b then answer.Failure EINVAL else answer.Wait) e))
    (λ v. invocation-without m.process_table t v thread_outside (λ x. refl)) u
move_serves m t q a h may (Moves.enters r e room) u =
    begun_serves m t (item.Call r.number) a h e.given refl (λ v. serves_after_accept m t v (item.Call r.number) e.given) u
move_serves m t q a h may (Moves.fails r e full) u = failed_serves m t r h e.given u
move_serves m t q a h may (Moves.enters_notice n e) u =
    begun_serves m t (item.Notice n.number) a h e.given refl (λ v. serves_after_accept m t v (item.Notice n.number) e.given) u
move_serves m t q a h may (Moves.collects c e) u = kept m t q a u (invocation-set_thread_state m.process_table t u is.Running)
move_serves m t q a h may (Moves.retrieves port max nget one e) u =
    kept m t q a u (invocation-set_thread_state m.process_table t u is.Running)
move_serves m t q a h may (Moves.leaves r who (interrupts v)) u = (interrupt_leaves m t v.0 h).serves u
move_serves m t q a h may (Moves.leaves r who (exits e)) u = (thread_leaves m t q t h (running_is m t may.running)).serves u
move_serves m t q a h may (Moves.revokes fd f) u = (revoke_leaves m t q fd h (running_is m t may.running)).serves u
move_serves m t q a h may (Moves.ends r p _) u = (process_leaves m t q p h).serves u
move_serves m t q a h may (Moves.forks child f) u = (fork_leaves m t child h f).serves u
move_serves m t q a h may _ u = stays

act_serves : (m : State) (t : ℕ) (q : Option Request) (u : ℕ) → IsConsistent m → MayTurn m t q → Serves m t q (act m t q) u
act_serves m t q u h may = move_serves m t q (act m t q) h may (act_moves m t q) u

-- what the kernel does after an act leaves every invocation as it is, and the threads that are done as well

pub step_serves :
    (m : State) (t : ℕ) (q : Option Request) (u : ℕ) → Invariant m → MayTurn m t q →
    InvocationArrow m t q (step m t q).answer (step m t q).state u (invocation_of m u) (invocation_of (step m t q).state u)
unfolding step
step_serves m t q u h may =
    subst (λ o. InvocationArrow m t q (act m t q).answer n u (invocation_of m u) o)
    (sym (d.settled.gave.serves u))
    (serves_later m t q (act m t q).answer (act m t q).state n u _ _
    (same_done m t q d)
    (act_serves m t q u h.consistent may))
  where
    d : StepDoes m t q
    d = step_does m t q h may

    n : State
    n = with_event_counted (settle m (act m t q).state)
