use Rattle.kernel_store.specs.Turning.{KnowsPaths, KnowsPorts, is_port}
use Rattle.kernel_store.proofs.Knowing.{knows_left}
use Rattle.std.proofs.Common.{◌≡◌, ◌+◌, ◌++◌, ◌<◌, ◌==◌, ◌&&◌, ℕ, true, false, not, length, sym, ap, ◌∙◌, subst, subst₂, arith, rules}
use Rattle.std.specs.List.{list_any}
use Rattle.dk_base.specs.declared.number.Tid.{Tid}
use Rattle.dk_base.specs.Words.{has}
use Rattle.law_pools.specs.Words.{IsGivenOut}
use Rattle.exit_paths.specs.Words.{became_idle, is_idle_at}
use Rattle.kernel_store.proofs.LeftOut.{has_idle, left_out, told_within}
use Rattle.law_calls.proofs.Leaving.{calls_left}
use Rattle.law_calls.specs.Words.{AreBacked}
use Rattle.kernel_holdings.specs.Words.{HoldingsValue}
use Rattle.spec_records.specs.Words.{CallTree, ProcessTable, is_dormant, kept_notices, leaving_of, left_notices, state_in, thread_at}
use Rattle.spec_kernel.specs.Words.{forget, leave}
use Rattle.server_pool.specs.Words.{item_room_in}
use Rattle.law_pools.specs.Words.{Agrees}
use Rattle.law_pools.proofs.Stacks.{agrees_later}
use Rattle.law_pools.proofs.Noticing.{list_is_kept}
use Rattle.unref_notice.specs.Words.{AreAllLeft}
use Rattle.kernel_store.specs.Held.{AreHeld}
use Rattle.kernel_store.proofs.HeldNotices.{all_are_left}
use Rattle.kernel_store.specs.Stored.{ArePlaced, StoreValue, stored_state}
use Rattle.kernel_store.proofs.LeftStore.{all_left_alike, early, notices_alike, parked_early}
use Rattle.kernel_store.proofs.Forking.{dormant_left}
use Rattle.kernel_store.proofs.Lost.{can_end}
use Rattle.kernel_store.proofs.There.{there_fewer}
use Rattle.kernel_store.proofs.Short.{no_less_items, there_before}
use Rattle.kernel_store.proofs.Waits.{others_kept, waits_left}
use Rattle.kernel_store.proofs.store.Store.leave.Goals as goal

pub leave-requires-clause-can : goal.leave-requires-clause-can
leave-requires-clause-can c =
    let s = c.self.inside in
    let l : s.latest < s.events + 1 = early c.self.invariant.0 c.self.view_is c.requires.can.latest in
    record {
      list = s.notices.list;
      agreed = agrees_later c.self.invariant.0 (s.events + 1) (omega arith);
      placed = subst (λ (v : StoreValue). ArePlaced (stored_state v)) (sym c.self.view_is) c.requires.can.placed;
      earlier = λ t x e. omega (arith, l, parked_early c.self.invariant.0 t x e);
    }

pub leave-requires-clause-ends : goal.leave-requires-clause-ends
leave-requires-clause-ends c =
    let placed = subst (λ (v : StoreValue). ArePlaced (stored_state v)) (sym c.self.view_is) c.requires.can.placed in
    rw c.slice.ensures
    (can_end c.self.view_is c.self.invariant.0 placed.door_number c.requires.can.waiting c.args.who c.in_ok-lost.lost c.requires.declared (rw (← c.self.view_is) at c.in_ok-lost.ensures))

pub leave_notices-requires-clause-left : goal.leave_notices-requires-clause-left
leave_notices-requires-clause-left c =
    let s = c.self.inside in
    let doors = s.doors.items in
    let who = leaving_of s.processes doors c.args.who in
    let tree = s.held.calls.tree in
    let exited = c.in_ok-left.ensures.left in
    subst (λ (table : ProcessTable). AreAllLeft (leaving_of table doors c.args.who) (c.slice-2.result.now ++ c.slice-3.result.now) s.notices.list.notices) (sym exited.threads)
    (all_left_alike s.processes doors who (s.events + 1) tree.calls c.args.who (c.slice-2.result.now ++ c.slice-3.result.now) s.notices.list.notices
    (rw (c.slice-2.ensures, c.slice-3.ensures)
    (all_are_left who s.processes s.notices.list.notices c.in_ok-left.left.untaken c.in_ok-had.had.items (subst (λ (v : StoreValue). AreHeld (stored_state v)) (sym c.self.view_is) c.requires.can.held)
    (exited.untaken s.notices.list (agrees_later c.self.invariant.0 (s.events + 1) (let l = early c.self.invariant.0 c.self.view_is c.requires.can.latest in omega arith))) (c.in_ok-had.ensures doors))))

pub leave_notices-requires-clause-kept : goal.leave_notices-requires-clause-kept
leave_notices-requires-clause-kept c = list_is_kept c.self.invariant.0

pub invariant_of-self-2 : goal.invariant_of-self-2
invariant_of-self-2 c =
    let s = c.self.inside in
    let doors = s.doors.items in
    let who = leaving_of s.processes doors c.args.who in
    let tree = s.held.calls.tree in
    let exited = c.in_ok-left.ensures.left in
    let placed = subst (λ (v : StoreValue). ArePlaced (stored_state v)) (sym c.self.view_is) c.requires.can.placed in
    let l : s.latest < s.events + 1 = early c.self.invariant.0 c.self.view_is c.requires.can.latest in
    let notices : c.leave_notices.new.notices.list ≡ kept_notices doors (left_notices who s.notices.list) =
    c.leave_notices.ensures.list
    ∙ ap (λ (t : ProcessTable). kept_notices doors (left_notices (leaving_of t doors c.args.who) s.notices.list)) exited.threads
    ∙ ap (kept_notices doors) (notices_alike s.processes doors who (s.events + 1) tree.calls c.args.who s.notices.list) in
    let agreed = exited.agreed s.notices.list (agrees_later c.self.invariant.0 (s.events + 1) (omega arith)) in (
      subst (λ list. Agrees (s.events + 1) c.leave.new.procs doors c.leave.new.self.calls.tree list c.leave.new.pools) (sym notices)
          agreed,
      there_fewer doors s.held c.leave.new.self c.self.invariant.1 c.leave.ensures.references,
      subst₂ AreBacked (sym exited.threads) (ap (λ (t : CallTree). t.calls) (sym exited.calls))
          (calls_left s.processes tree (rw c.calls.ensures at c.are_sound.ensures) c.self.invariant.2 placed.thread_number who (s.events + 1)),
      subst₂ (λ table names. KnowsPaths table names s.named) (sym exited.threads) (ap (λ (h : HoldingsValue). h.names.names) (sym c.in_ok-left.ensures.same))
          (knows_left s.processes who (s.events + 1) tree.calls c.self.invariant.3),
      no_less_items s.short.items s.pools c.leave.new.pools c.self.invariant.4
          (there_before s.pools c.leave.new.pools (agreed.common ∙ ap (λ (t : ProcessTable). length t.processes) exited.threads ∙ sym c.self.invariant.0.common) (agreed.private ∙ sym c.self.invariant.0.private))
          exited.items,
      c.note_references.ensures s.held
          (others_kept s.held c.leave.new.self c.in_ok-left.left.dropped c.has_port.result (c.has_port.ensures ∙ ap (list_any is_port) c.slice-4.ensures) c.in_ok-left.ensures.others)
          (subst (λ table. KnowsPorts table s.held s.ports.ports.ports s.ended) (sym exited.threads) (waits_left s.processes who (s.events + 1) tree.calls c.self.invariant.5)),
    )

pub returns-clause-state : goal.returns-clause-state
returns-clause-state c =
    let s = c.self.inside in
    let doors = s.doors.items in
    let who = leaving_of s.processes doors c.args.who in
    let tree = s.held.calls.tree in
    let exited = c.in_ok-left.ensures.left in
    let notices : c.leave_notices.new.notices.list ≡ kept_notices doors (left_notices who s.notices.list) =
    c.leave_notices.ensures.list
    ∙ ap (λ (t : ProcessTable). kept_notices doors (left_notices (leaving_of t doors c.args.who) s.notices.list)) exited.threads
    ∙ ap (kept_notices doors) (notices_alike s.processes doors who (s.events + 1) tree.calls c.args.who s.notices.list) in
    rw c.in_ok-left.ensures.same
    (rw (exited.threads, exited.bindings, exited.calls, notices)
    (ap (λ (v : StoreValue). forget (leave (stored_state v) (leaving_of v.processes v.doors.items c.args.who))) c.self.view_is))

pub returns-clause-queues : goal.returns-clause-queues
returns-clause-queues c = λ pool.
    let kept = c.in_ok-left.ensures.left.items pool in
    let here = ap (λ (v : StoreValue). item_room_in v.pools pool) c.self.view_is in
    omega (arith, kept, here)

pub returns-clause-keeps : goal.returns-clause-keeps
returns-clause-keeps c =
    record {
      latest = search rules;
      opening = search rules;
      notice_room = search rules;
      short_room = search rules;
      items = λ pool. let kept = returns-clause-queues c pool in omega (arith, kept);
    }

pub set_of-requires : goal.set_of-requires
set_of-requires c =
    rw (c.slice-5.ensures, c.in_ok-left.ensures.left.parked) (told_within (became_idle c.self.inside.processes c.leave.new.procs))

pub returns-clause-parked : goal.returns-clause-parked
returns-clause-parked c =
    let s = c.self.inside in
    let doors = s.doors.items in
    let exited = c.in_ok-left.ensures.left in
    let l : s.latest < s.events + 1 = early c.self.invariant.0 c.self.view_is c.requires.can.latest in
    let before = agrees_later c.self.invariant.0 (s.events + 1) (omega arith) in
    let all : (t : ℕ) → became_idle s.processes c.leave.new.procs t ≡ true → has c.set_of.result t ≡ true =
    has_idle s.processes c.leave.new.procs c.set_of.result c.thread_count-threads.ensures.few
    (λ t. c.set_of.ensures t ∙ ap (list_any (λ (u : Tid). u.0 == t)) (c.slice-5.ensures ∙ exited.parked)) in
    record {
      idle =
          λ t e f.
          let was : is_idle_at s.processes t ≡ false = ap (λ (v : StoreValue). is_idle_at v.processes t) c.self.view_is ∙ e in
          all t (ap (λ b. not b && is_idle_at c.leave.new.procs t) was ∙ f);
      given_out =
          λ out pool.
          left_out (leaving_of s.processes doors c.args.who) (s.events + 1) (s.events + 1) s.processes c.leave.new.procs doors s.held.calls.tree
          c.leave.new.self.calls.tree s.notices.list s.pools c.leave.new.pools before (exited.agreed s.notices.list before) exited.threads exited.calls
          exited.bindings c.set_of.result all (subst (λ (v : StoreValue). IsGivenOut v.pools) (sym c.self.view_is) out) pool;
    }

pub returns-clause-dormant : goal.returns-clause-dormant
returns-clause-dormant c = λ t stays asleep.
    let s = c.self.inside in
    let placed = subst (λ (v : StoreValue). ArePlaced (stored_state v)) (sym c.self.view_is) c.requires.can.placed in
    let who = leaving_of s.processes s.doors.items c.args.who in
    ap (λ (table : ProcessTable). is_dormant (state_in (thread_at table t))) c.in_ok-left.ensures.left.threads
    ∙ dormant_left s.processes s.held.calls.tree.calls who (s.events + 1) placed.thread_number c.self.invariant.2 t
    (ap (λ (v : StoreValue). (leaving_of v.processes v.doors.items c.args.who).ends t) c.self.view_is ∙ stays)
    (ap (λ (v : StoreValue). is_dormant (state_in (thread_at v.processes t))) c.self.view_is ∙ asleep)
