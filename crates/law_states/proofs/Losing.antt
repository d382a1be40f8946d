-- But for acts of leaving, an act leaves no thread idle that is bound to a door that is not valid, but its own at the end of a wait of a
-- thread that is so bound already.
use Rattle.std.specs.Prelude.{ℕ, ◌≡◌, ◌+◌, ◌&&◌, List, Option, true, false, length}
use Rattle.std.proofs.Common.{refl, ap}
use native.Mathlib.Omega.{arith}
use Rattle.std.proofs.lemmas.Bool.Decides.{nat_tests}
use Rattle.spec_kernel.specs.Types.{Door, Request, Thread}
use Rattle.dk_base.specs.ByNumber.{at_number, with_at_number}
use Rattle.dk_base.specs.declared.object.Item.TheVariants as item
use Rattle.spec_records.specs.declared.record.ThreadState.TheVariants as is
use Rattle.spec_records.specs.Words.{change_thread, idle_thread, is_idle, is_valid_in, new_door, thread_at_state, thread_in_invocation, thread_outside, with_param}
use Rattle.spec_kernel.specs.Words.{ActResult, MayTurn, State, act, door_at, has_invalid_door, has_lost_door, is_valid, now, process_of, state_of}
use Rattle.spec_kernel.proofs.Doors.{at_number-change_door}
use Rattle.spec_records.proofs.Lists.{at_number-with_at_number, numbered_push}
use Rattle.spec_kernel.proofs.Threads.{thread_at-change_thread}
use Rattle.spec_kernel.proofs.Moves.{Moves, act_moves}
use Rattle.spec_kernel.proofs.Moves.IsLeaving.{interrupts, exits}
use Rattle.spec_kernel.proofs.Moves.IsEnding.{kills, exits_last}
use Rattle.law_states.specs.Invariant.{Invariant}
use Rattle.law_states.specs.Events.{may_lose_door}
use Rattle.law_states.proofs.Failing.{bound-unbind_thread}
use Rattle.law_states.proofs.Settling.{no_lost_door}
use Rattle.law_states.proofs.Steps.{running_is}

-- a thread that has lost no door, after this one changes to a state that is not idle, or is bound to no invalid door
changed_keeps :
    (m : State) (t : ℕ) (change : Thread → Thread) (u : ℕ) → has_lost_door m u ≡ false →
    ((x : Thread) → is_idle (change x).state && has_invalid_door m t ≡ false) →
    has_lost_door (record m { process_table = change_thread m.process_table t change }) u ≡ false
changed_keeps m t change u l e = grind (arith, nat_tests, thread_at-change_thread m.process_table t u change, e)

-- after doors change of which those stay valid that were so
doors_keep_lost :
    (m : State) (doors : List Door) (u : ℕ) → has_lost_door m u ≡ false →
    ((d : ℕ) → is_valid m d ≡ true → is_valid_in (at_number doors d) ≡ true) → has_lost_door (record m { doors = doors }) u ≡ false
doors_keep_lost m doors u l e = grind (arith, l, e)

-- after this thread's binding changes while it is not idle
bound_keeps :
    (m : State) (t : ℕ) (o : Option ℕ) (u : ℕ) → has_lost_door m u ≡ false → is_idle (state_of m t) ≡ false →
    has_lost_door (record m { bindings = with_at_number m.bindings t o }) u ≡ false
bound_keeps m t o u l e = grind (arith, nat_tests, at_number-with_at_number m.bindings t u o)

move_none_lost :
    (m : State) (t : ℕ) (q : Option Request) (a : ActResult) (u : ℕ) → ((v : ℕ) → has_lost_door m v ≡ false) → MayTurn m t q →
    may_lose_door m t q ≡ false → Moves m t q a → has_lost_door a.state u ≡ false
move_none_lost m t q a u l may n (Moves.bound r o _) = bound_keeps m t o u (l u) (ap is_idle (running_is m t may.running))
move_none_lost m t q a u l may n (Moves.parameter fd x value f) =
    doors_keep_lost m _ u (l u) (λ d e. grind (arith, nat_tests, at_number-change_door m.doors (door_at m (process_of m t) fd) d (with_param x value)))
move_none_lost m t q a u l may n (Moves.makes entry cookie attrs f) =
    doors_keep_lost m _ u (l u) (λ d e. grind (arith, nat_tests, numbered_push m.doors (new_door (length m.doors + 1) (process_of m t) entry cookie attrs) d))
move_none_lost m t q a u l may n (Moves.turns s x w _) = changed_keeps m t (thread_at_state s) u (l u) (λ y. grind (arith, w))
move_none_lost m t q a u l may n (Moves.calls fd bytes pass rsize f) = changed_keeps m t (thread_at_state (is.Calling (m.call_tree.made + 1))) u (l u) (λ x. refl)
move_none_lost m t q a u l may n (Moves.returns bytes pass f e) = changed_keeps m t (idle_thread (now m)) u (l u) (λ x. e)
move_none_lost m t q a u l may n (Moves.returns_unbound bytes pass f e) =
    grind (arith, nat_tests, l u, thread_at-change_thread m.process_table t u thread_outside, bound-unbind_thread m.bindings t u)
move_none_lost m t q a u l may n (Moves.enters r e room) = changed_keeps m t (thread_in_invocation (item.Call r.number)) u (l u) (λ x. refl)
move_none_lost m t q a u l may n (Moves.fails r e full) = changed_keeps m t (idle_thread (now m)) u (l u) (λ x. n)
move_none_lost m t q a u l may n (Moves.enters_notice x e) = changed_keeps m t (thread_in_invocation (item.Notice x.number)) u (l u) (λ y. refl)
move_none_lost m t q a u l may n (Moves.collects c e) = changed_keeps m t (thread_at_state is.Running) u (l u) (λ x. refl)
move_none_lost m t q a u l may n (Moves.retrieves port max nget one e) = changed_keeps m t (thread_at_state is.Running) u (l u) (λ x. refl)
move_none_lost m t q a u l may n (Moves.leaves r who (interrupts v)) = absurd (grind arith)
move_none_lost m t q a u l may n (Moves.leaves r who (exits e)) = absurd (grind arith)
move_none_lost m t q a u l may n (Moves.revokes fd f) = absurd (grind arith)
move_none_lost m t q a u l may n (Moves.ends r p (kills c e)) = absurd (grind arith)
move_none_lost m t q a u l may n (Moves.ends r p (exits_last e)) = absurd (grind arith)
move_none_lost m t q a u l may n (Moves.forks child f) = absurd (grind arith)
move_none_lost m t q a u l may n _ = l u

pub act_none_lost :
    (m : State) (t u : ℕ) (q : Option Request) → Invariant m → MayTurn m t q → may_lose_door m t q ≡ false →
    has_lost_door (act m t q).state u ≡ false
act_none_lost m t u q h may l = move_none_lost m t q (act m t q) u (no_lost_door m h) may l (act_moves m t q)
