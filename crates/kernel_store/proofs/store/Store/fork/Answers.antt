use Rattle.std.proofs.Common.{◌≡◌, ◌⊎◌, ◌≤◌, ℕ, List, [], Option, le_refl, if◌then◌else◌, is_some, length, refl, sym, subst, subst₂, ap, ◌∙◌, arith}
use Rattle.std.specs.Prelude.{Err, Ok, OnErr, Result}
use Rattle.spec_records.specs.Words.{ProcessTable, begin_process, forking, is_idle, objects_of, state_in, table_in, thread_at, with_table}
use Rattle.spec_kernel.specs.Leaving.{bind_first, bindings_after_fork}
use Rattle.spec_kernel.specs.Types.{Obj, Parked, Waiting}
use Rattle.spec_kernel.specs.Words.{State, bound_of, forget, fork, leave, now, process_of, table_of}
use Rattle.server_pool.specs.Words.{PoolsValue, item_room_in, queue_in, stack_in}
use Rattle.exit_paths.proofs.LeftThreads.{process_kept}
use Rattle.kernel_store.specs.Frames.{AreIn}
use Rattle.kernel_store.specs.Stored.{stored_state}
use Rattle.kernel_store.proofs.Acts.{fills_same}
use Rattle.kernel_store.proofs.Forking.{first_left, idle_begun}
use Rattle.kernel_store.proofs.store.Store.fork.Goals as goal

on_error : {A E X : Type 0} (r : Result A E) → X → OnErr r X
on_error (Ok a) x = tt
on_error (Err e) x = x

-- all that is left of the state as a child has begun
begun_is :
    (m : State) (t p child : ℕ) (left begun copied : State) → left ≡ forget (leave m (forking m.process_table t)) →
    begun ≡ record left { process_table = begin_process left.process_table child; bindings = bindings_after_fork left t child } →
    copied ≡ record begun { tables = with_table begun.tables child (table_of begun p) } → copied ≡ forget (fork m t p child).state
begun_is m t p child left begun copied e f g =
    g ∙ ap (λ (n : State). record n { tables = with_table n.tables child (table_of n p) }) (f ∙ ap (λ (n : State). record n { process_table = begin_process n.process_table child; bindings = bindings_after_fork n t child }) e)
    ∙ ap
    (λ place.
    forget
    (record (leave m (forking m.process_table t)) {
      process_table = begin_process (leave m (forking m.process_table t)).process_table child;
      bindings = if is_some (bound_of m t) then bind_first m.bindings place else m.bindings;
      tables = with_table m.tables child (table_of m p);
    }))
    (first_left m.process_table m.call_tree.calls (forking m.process_table t) (now m) child)

pub begin-requires : goal.begin-requires
begin-requires c = λ u own.
    let m = stored_state c.args.self.now in
    let who = forking m.process_table c.args.t.0 in
    let kept : process_of (stored_state c.leave.new.self) u ≡ process_of m u =
    ap (λ (n : State). process_of n u) c.in_ok-parked.ensures.state ∙ process_kept who (now m) m.call_tree.calls m.process_table u in
    c.in_ok-parked.ensures.dormant u refl (c.requires.may.dormant u (sym kept ∙ own))

-- the tables are as they were until rows are copied
tables_kept :
    (m : State) (t child : ℕ) (left begun : State) → left ≡ forget (leave m (forking m.process_table t)) →
    begun ≡ record left { process_table = begin_process left.process_table child; bindings = bindings_after_fork left t child } → begun.tables ≡ m.tables
tables_kept m t child left begun e f = ap (λ (n : State). n.tables) f ∙ ap (λ (n : State). n.tables) e

pub copy_rows-requires-clause-order : goal.copy_rows-requires-clause-order
copy_rows-requires-clause-order c =
    let may = c.requires.may in
    let kept = tables_kept (stored_state c.args.self.now) c.args.t.0 c.args.child.0 (stored_state c.leave.new.self) (stored_state c.begin.new.self) c.in_ok-parked.ensures.state c.begin.ensures.state in
    (may.first, may.after, subst (λ (ts : List (List (Option Obj))). c.args.child.0 ≤ length ts) (sym kept) may.there)

pub copy_rows-requires-clause-none : goal.copy_rows-requires-clause-none
copy_rows-requires-clause-none c =
    let kept = tables_kept (stored_state c.args.self.now) c.args.t.0 c.args.child.0 (stored_state c.leave.new.self) (stored_state c.begin.new.self) c.in_ok-parked.ensures.state c.begin.ensures.state in
    ap (λ (ts : List (List (Option Obj))). objects_of (table_in ts c.args.child.0)) kept ∙ c.requires.may.no_rows

pub copy_rows-requires-clause-limits : goal.copy_rows-requires-clause-limits
copy_rows-requires-clause-limits c =
    let kept = tables_kept (stored_state c.args.self.now) c.args.t.0 c.args.child.0 (stored_state c.leave.new.self) (stored_state c.begin.new.self) c.in_ok-parked.ensures.state c.begin.ensures.state in
    ap (λ (ts : List (List (Option Obj))). length (table_in ts c.args.child.0)) kept ∙ c.requires.may.limit
    ∙ sym (ap (λ (ts : List (List (Option Obj))). length (table_in ts c.args.p.0)) kept)

pub copy_rows-requires-clause-left : goal.copy_rows-requires-clause-left
copy_rows-requires-clause-left c = omega (arith, c.requires.can.references, c.in_ok-parked.ensures.left, c.begin.ensures.pools.left)

pub returns-clause-state : goal.returns-clause-state
returns-clause-state c =
    begun_is (stored_state c.args.self.now) c.args.t.0 c.args.p.0 c.args.child.0 (stored_state c.leave.new.self) (stored_state c.begin.new.self) (stored_state c.copy_rows.new.self)
    c.in_ok-parked.ensures.state c.begin.ensures.state c.copy_rows.ensures.state

pub returns-clause-queues : goal.returns-clause-queues
returns-clause-queues c = λ pool.
    let l = c.leave.ensures.queues pool in
    let b = c.begin.ensures.pools.items pool in
    let k = ap (λ (v : PoolsValue). item_room_in v pool) c.copy_rows.ensures.keeps.pools in
    omega (arith, l, b, k)

pub returns-clause-keeps : goal.returns-clause-keeps
returns-clause-keeps c =
    let l = c.in_ok-parked.ensures.keeps in
    let b = c.begin.ensures.pools in
    let k = c.copy_rows.ensures.keeps in
    record {
      latest = omega (arith, l.latest, b.latest, k.latest);
      opening = k.opening ∙ b.opening ∙ l.opening;
      notice_room = omega (arith, l.notice_room, b.notice_room, k.notice_room);
      short_room = omega (arith, l.short_room, b.short_room, k.short_room);
      items = λ pool. let kept = returns-clause-queues c pool in omega (arith, kept);
    }

pub returns-clause-parked : goal.returns-clause-parked
returns-clause-parked c =
    let l = c.in_ok-parked.ensures.parked in
    let b = c.begin.ensures.pools in
    let k = c.copy_rows.ensures.keeps in
    let begun : (stored_state c.copy_rows.new.self).process_table ≡ begin_process (stored_state c.leave.new.self).process_table c.args.child.0 =
    ap (λ (n : State). n.process_table) (c.copy_rows.ensures.state) ∙ ap (λ (n : State). n.process_table) c.begin.ensures.state in
    record {
      idle =
          λ t was is_now.
          l.idle t was
          (idle_begun (stored_state c.leave.new.self).process_table c.args.child.0 t
          (ap (λ (table : ProcessTable). is_idle (state_in (thread_at table t))) (sym begun) ∙ is_now));
      given_out =
          λ out pool.
          subst₂ (λ (stack : List Parked) (queue : List Waiting). AreIn c.in_ok-parked.parked stack ⊎ (queue ≡ []))
          (sym (ap (λ (v : PoolsValue). stack_in v pool) k.pools ∙ b.stacks pool))
          (sym (ap (λ (v : PoolsValue). queue_in v pool) k.pools ∙ b.queues pool))
          (l.given_out out pool);
    }

pub returns-in_err-added-clause-fills : goal.returns-in_err-added-clause-fills
returns-in_err-added-clause-fills c = on_error c.from_residual.result (fills_same (record { pools = refl; latest = refl; opening = refl; notice_room = le_refl _; short_room = refl }))
