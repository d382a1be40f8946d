-- Which events end threads: only acts of leaving.
use Rattle.std.specs.Prelude.{ℕ, ◌≡◌, ◌+◌, ◌==◌, List, Option, Bool, true, false, if◌then◌else◌, Some, None, slice_get}
use Rattle.std.specs.Option.{option_map}
use Rattle.std.proofs.Common.{refl, sym, ap, subst, ◌∙◌}
use native.Mathlib.Omega.{arith}
use Rattle.std.proofs.lemmas.Bool.Decides.{nat_tests}
use Rattle.spec_kernel.specs.Types.{Errno, Item, Request, Thread, ThreadState}
use Rattle.dk_base.specs.ByNumber.{at_number}
use Rattle.dk_base.specs.declared.object.Item.TheVariants as item
use Rattle.dk_base.specs.declared.request.Request.TheVariants as request
use Rattle.spec_records.specs.declared.record.ThreadState.TheVariants as is
use Rattle.spec_records.specs.Words.{ProcessTable, change_thread, idle_thread, is_valid_in, state_in, thread_at, thread_at_state, thread_in_invocation, thread_outside, tid}
use Rattle.spec_kernel.specs.Words.{ActResult, State, Turn, act, effect, give_one, is_valid, now, process_of, refusal_of, settle, state_at, state_of, step, unless_refused}
use Rattle.spec_kernel.proofs.Settling.{doors-settle, settle-all}
use Rattle.spec_kernel.proofs.Threads.{thread_at-change_thread}
use Rattle.spec_kernel.proofs.Moves.{Moves, act_moves, is_leave}
use Rattle.spec_kernel.proofs.Moves.IsLeaving.{interrupts, exits}
use Rattle.spec_kernel.proofs.Moves.IsEnding.{kills, exits_last}
use Rattle.law_states.specs.Arrows.{EndsNow, Interrupts}
use Rattle.law_states.specs.Arrows.Interrupts.{asked, forked}
use Rattle.law_states.specs.Events.{is_leaving}
use Rattle.law_places.proofs.Known.{Known, next}

-- a turn at which callers, threads or doors leave
abbrev pub is_leaving_turn : Option Request → Bool
is_leaving_turn None = false
is_leaving_turn (Some r) = is_leaving r

-- a thread that is Done is Done before
pub record EndsNone (m n : ProcessTable) : Type 0 where
  pub done : (u : ℕ) → state_in (thread_at n u) ≡ is.Done → state_in (thread_at m u) ≡ is.Done

same_none : (table : ProcessTable) → EndsNone table table
same_none table = record { done = λ u h. h }

-- a change of one thread that doesn't end it
change_none :
    (table : ProcessTable) (t : ℕ) (change : Thread → Thread) → ((x : Thread) → (change x).state ≡ is.Done → x.state ≡ is.Done) →
    EndsNone table (change_thread table t change)
change_none table t change h =
    record { done = λ u d. go u (u == t) refl (thread_at table t) refl (sym (ap state_in (thread_at-change_thread table t u change)) ∙ d) }
  where
    go :
        (u : ℕ) (b : Bool) → (u == t) ≡ b → (o : Option Thread) → thread_at table t ≡ o →
        state_in (if b then option_map change o else thread_at table u) ≡ is.Done → state_in (thread_at table u) ≡ is.Done
    go u false e o f d = d
    go u true e None f d =
        let same : u ≡ t = grind (arith, nat_tests) in
        ap (λ v. state_in (thread_at table v)) same ∙ ap state_in f
    go u true e (Some x) f d =
        let same : u ≡ t = grind (arith, nat_tests) in
        ap (λ v. state_in (thread_at table v)) same ∙ ap state_in f ∙ h x d

-- to a state that is not Done
turn_none : (table : ProcessTable) (t : ℕ) (s : ThreadState) → (s ≡ is.Done → ⊥) → EndsNone table (change_thread table t (thread_at_state s))
turn_none table t s h = change_none table t (thread_at_state s) (λ x d. absurd (h d))

-- acts

abbrev pub EndsNoneIn : State → State → Type 0
EndsNoneIn m n = EndsNone m.process_table n.process_table

pub move_none : (m : State) (t : ℕ) (q : Option Request) (a : ActResult) (x : Moves m t q a) → is_leave x ≡ false → EndsNoneIn m a.state
move_none m t q a (Moves.turns s x w _) l = turn_none m.process_table t s (λ d. absurd (grind (arith, w)))
move_none m t q a (Moves.calls fd bytes pass rsize f) l = turn_none m.process_table t _ (λ d. cc)
move_none m t q a (Moves.returns bytes pass f e) l = change_none m.process_table t (idle_thread (now m)) (λ x d. absurd (cc d))
move_none m t q a (Moves.returns_unbound bytes pass f e) l = change_none m.process_table t thread_outside (λ x d. d)
move_none m t q a (Moves.enters r e f) l = change_none m.process_table t (thread_in_invocation (item.Call r.number)) (λ x d. absurd (cc d))
move_none m t q a (Moves.fails r e f) l = change_none m.process_table t (idle_thread (now m)) (λ x d. absurd (cc d))
move_none m t q a (Moves.enters_notice n e) l = change_none m.process_table t (thread_in_invocation (item.Notice n.number)) (λ x d. absurd (cc d))
move_none m t q a (Moves.collects c e) l = turn_none m.process_table t is.Running (λ d. cc)
move_none m t q a (Moves.retrieves port max nget one e) l = turn_none m.process_table t is.Running (λ d. cc)
move_none m t q a (Moves.leaves r who e) l = absurd (cc l)
move_none m t q a (Moves.revokes fd f) l = absurd (cc l)
move_none m t q a (Moves.ends r p e) l = absurd (cc l)
move_none m t q a (Moves.forks child f) l = absurd (cc l)
move_none m t q a _ l = same_none m.process_table

-- by which only an entry of leaving leaves
only_leaving : (m : State) (t : ℕ) (q : Option Request) (a : ActResult) (x : Moves m t q a) → is_leaving_turn q ≡ false → is_leave x ≡ false
only_leaving m t q a (Moves.leaves r who (interrupts u)) l = absurd (cc l)
only_leaving m t q a (Moves.leaves r who (exits e)) l = absurd (cc l)
only_leaving m t q a (Moves.revokes fd f) l = absurd (cc l)
only_leaving m t q a (Moves.ends r p (kills u e)) l = absurd (cc l)
only_leaving m t q a (Moves.ends r p (exits_last e)) l = absurd (cc l)
only_leaving m t q a (Moves.forks child f) l = absurd (cc l)
only_leaving m t q a _ l = refl

act_none : (m : State) (t : ℕ) (q : Option Request) → is_leaving_turn q ≡ false → EndsNoneIn m (act m t q).state
act_none m t q l = move_none m t q (act m t q) (act_moves m t q) (only_leaving m t q (act m t q) (act_moves m t q) l)

-- and what the kernel does after them

give_none : (m : State) (i : Item) (u : ℕ) → EndsNoneIn m (give_one m i u)
give_none m (item.Call c) u = turn_none m.process_table u _ (λ d. cc)
give_none m (item.Notice n) u = turn_none m.process_table u _ (λ d. cc)

pub settle_none : (before m : State) (u : ℕ) → state_of (settle before m) u ≡ is.Done → state_of m u ≡ is.Done
settle_none before m u =
    settle-all (λ n. state_of n u ≡ is.Done → state_of m u ≡ is.Done) before
    (record {
      makes = λ n d l e. e;
      fails = λ n t l e d. e ((turn_none n.process_table t is.FailedReturn (λ f. cc)).done u d);
      gives = λ n w x p e d. e ((give_none n w.item x.thread.0).done u d);
      starts = λ n t r e d. e ((turn_none n.process_table t is.Running (λ f. cc)).done u d);
    }) (λ n h. h)
    m
    (λ d. d)

pub none_ends : (m : State) (t : ℕ) (q : Option Request) (u : ℕ) → is_leaving_turn q ≡ false → EndsNow m (step m t q).state u → ⊥
unfolding step
none_ends m t q u e h = h.before ((act_none m t q e).done u (settle_none m (act m t q).state u h.after))

-- at a place of a run
pub none_ends_at :
    (m : State) (xs : List Turn) → Known m xs → (i : ℕ) (x : Turn) → slice_get xs i ≡ Some x → is_leaving_turn x.request ≡ false → (u : ℕ) →
    EndsNow (state_at m xs i) (state_at m xs (i + 1)) u → ⊥
none_ends_at m xs k i x e l u h =
    none_ends (state_at m xs i) x.thread x.request u l (subst (λ n. EndsNow (state_at m xs i) n u) (next m xs k i x e) h)

-- what interrupts a thread makes no door invalid

doors_entered :
    (m : State) (t : ℕ) (r : Request) → (effect m t (process_of m t) r).state.doors ≡ m.doors → (act m t (Some r)).state.doors ≡ m.doors
doors_entered m t r h = go (refusal_of m t (process_of m t) r)
  where
    go : (o : Option Errno) → (unless_refused m o (effect m t (process_of m t) r)).state.doors ≡ m.doors
    go None = h
    go (Some e) = refl

doors_interrupted : (m : State) (t : ℕ) (q : Option Request) (u : ℕ) → Interrupts m t q u → (act m t q).state.doors ≡ m.doors
doors_interrupted m t q u (asked e) =
    subst (λ p. (act m t p).state.doors ≡ m.doors) (sym e) (doors_entered m t (request.Interrupt (tid u)) refl)
doors_interrupted m t q u (forked child e f own other) =
    subst (λ p. (act m t p).state.doors ≡ m.doors) (sym e) (doors_entered m t (request.Fork child) refl)

valid_interrupted : (m : State) (t : ℕ) (q : Option Request) (u d : ℕ) → Interrupts m t q u → is_valid (step m t q).state d ≡ is_valid m d
unfolding step
valid_interrupted m t q u d h =
    ap (λ doors. is_valid_in (at_number doors d)) (doors-settle m (act m t q).state ∙ doors_interrupted m t q u h)

pub doors_interrupted_at :
    (m : State) (xs : List Turn) → Known m xs → (i : ℕ) (x : Turn) (u d : ℕ) → slice_get xs i ≡ Some x →
    Interrupts (state_at m xs i) x.thread x.request u → is_valid (state_at m xs (i + 1)) d ≡ is_valid (state_at m xs i) d
doors_interrupted_at m xs k i x u d e h =
    ap (λ n. is_valid n d) (next m xs k i x e) ∙ valid_interrupted (state_at m xs i) x.thread x.request u d h
