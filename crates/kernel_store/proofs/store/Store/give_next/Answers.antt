use Rattle.kernel_store.proofs.Knowing.{knows_changed, turned_still}
use Rattle.std.proofs.Common.{ap, refl, sym, subst, ◌∙◌}
use Rattle.server_pool.specs.Words.{match_in}
use Rattle.law_pools.specs.Words.{IsGivenOutIn}
use Rattle.kernel_store.specs.Stored.{IsAgreed}
use Rattle.kernel_store.proofs.Giving.{agrees_given, agrees_given_notice, gives_on, gives_on_notice, matched_is_idle, matched_waits, nothing_to_give}
use Rattle.kernel_store.specs.contracts.store.Store.{the_view}
use Rattle.spec_records.specs.declared.record.ThreadState.TheVariants as is
use Rattle.spec_records.specs.Words.{thread_at_state}
use Rattle.law_calls.proofs.Backing.{call_given, idle_serves_not, idle_there, idle_turns, idle_waits_not, some_call}
use Rattle.law_calls.proofs.Free.{is_thread}
use Rattle.kernel_store.proofs.There.{there_fewer}
use Rattle.kernel_store.proofs.Short.{matched_room, room_changed}
use Rattle.kernel_store.proofs.Waits.{turned_gets_not, waits_changed, waits_kept}
use Rattle.dk_base.specs.declared.object.Obj.TheVariants as obj
use Rattle.kernel_store.proofs.store.Store.give_next.Goals as goal

pub returns-in_default-clause-none : goal.returns-in_default-clause-none
returns-in_default-clause-none c e = (
  ap (λ pools. record (the_view c.self.inside) { pools = pools }) c.in_default.ensures.none ∙ c.self.view_is,
  subst (λ s. IsGivenOutIn s.pools c.args.pool) c.self.view_is
      (nothing_to_give (the_view c.self.inside) c.args.pool (sym c.in_default.ensures.result)),
  subst IsAgreed c.self.view_is c.self.invariant.0,
)

pub give-requires : goal.give-requires
give-requires c = matched_is_idle (the_view c.self.inside) c.self.invariant.0 c.args.pool c.in-Some.next (sym c.in-Some.ensures.result)

pub give_call-requires : goal.give_call-requires
give_call-requires c =
    let idle = matched_is_idle (the_view c.self.inside) c.self.invariant.0 c.args.pool c.in-Some.next (sym c.in-Some.ensures.result) in
    let table = c.self.inside.processes in
    let tree = c.self.inside.held.calls.tree in
    record {
      queued = matched_waits (the_view c.self.inside) c.self.invariant.0 c.args.pool c.in-Some.next (sym c.in-Some.ensures.result) c.in-Call.c c.in-Call.is;
      serves_none = idle_serves_not table tree c.self.invariant.0.calls c.self.invariant.2 c.in-Some.next.thread.0 idle;
      waits_not = idle_waits_not table tree c.self.invariant.0.calls c.self.invariant.2 c.in-Some.next.thread.0 idle;
      thread = is_thread table c.in-Some.next.thread.0 (idle_there _ idle) c.thread_count-threads.ensures.few;
    }

pub invariant_of-self-in-Call : goal.invariant_of-self-in-Call
invariant_of-self-in-Call c =
    let table = c.self.inside.processes in
    let tree = c.self.inside.held.calls.tree in
    let u = c.in-Some.next.thread.0 in
    let idle = matched_is_idle (the_view c.self.inside) c.self.invariant.0 c.args.pool c.in-Some.next (sym c.in-Some.ensures.result) in
    let x = some_call _ (matched_waits (the_view c.self.inside) c.self.invariant.0 c.args.pool c.in-Some.next (sym c.in-Some.ensures.result) c.in-Call.c c.in-Call.is) in
    rw c.give_call.ensures.same (
      agrees_given (the_view c.self.inside) c.self.invariant.0 c.args.pool c.in-Some.next (sym c.in-Some.ensures.result) c.in-Call.c
          c.in-Call.is _ _ c.give_call.new.self.calls c.give.ensures c.in-Some.ensures.some c.give_call.ensures.calls,
      rw c.give_call.ensures.same at (there_fewer c.self.inside.doors.items c.self.inside.held c.give_call.new.self c.self.invariant.1 c.give_call.ensures.references),
      rw (c.give.ensures, c.in-Call.is, c.give_call.ensures.calls)
          (call_given table tree c.self.invariant.0.calls c.self.invariant.2 u idle c.in-Call.c x.0 x.1),
      rw c.give.ensures (knows_changed table u (thread_at_state (is.Given c.in-Some.next.item)) (turned_still (is.Given c.in-Some.next.item) (λ path e. absurd cc)) c.self.invariant.3),
      rw c.in-Some.ensures.some (room_changed c.self.inside.short.items c.self.inside.pools c.self.invariant.4 c.args.pool match_in matched_room),
      rw c.give.ensures (waits_changed table u (thread_at_state (is.Given c.in-Some.next.item)) (turned_gets_not (is.Given c.in-Some.next.item) refl)
          (rw c.give_call.ensures.same at (waits_kept table c.self.inside.held c.give_call.new.self c.self.inside.ports.ports.ports c.self.inside.ended (λ q. c.give_call.ensures.others (obj.Port q) refl) c.self.invariant.5))),
    )

pub invariant_of-self-in-Notice : goal.invariant_of-self-in-Notice
invariant_of-self-in-Notice c =
    let idle = matched_is_idle (the_view c.self.inside) c.self.invariant.0 c.args.pool c.in-Some.next (sym c.in-Some.ensures.result) in (
      agrees_given_notice (the_view c.self.inside) c.self.invariant.0 c.args.pool c.in-Some.next (sym c.in-Some.ensures.result) c.in-Notice.n
          c.in-Notice.is _ _ c.give-in-Notice.new.self c.give.ensures c.in-Some.ensures.some c.give-in-Notice.ensures.list,
      c.self.invariant.1,
      rw c.give.ensures
          (idle_turns c.self.inside.processes c.self.inside.held.calls.tree c.self.invariant.0.calls c.self.invariant.2 c.in-Some.next.thread.0 idle
          (thread_at_state (is.Given c.in-Some.next.item))),
      rw c.give.ensures (knows_changed c.self.inside.processes c.in-Some.next.thread.0 (thread_at_state (is.Given c.in-Some.next.item)) (turned_still (is.Given c.in-Some.next.item) (λ path e. absurd cc)) c.self.invariant.3),
      rw c.in-Some.ensures.some (room_changed c.self.inside.short.items c.self.inside.pools c.self.invariant.4 c.args.pool match_in matched_room),
      rw c.give.ensures (waits_changed c.self.inside.processes c.in-Some.next.thread.0 (thread_at_state (is.Given c.in-Some.next.item)) (turned_gets_not (is.Given c.in-Some.next.item) refl) c.self.invariant.5),
    )

pub returns-in-Call-clause-given : goal.returns-in-Call-clause-given
returns-in-Call-clause-given c e =
    rw c.give_call.ensures.same
    (rw (← c.self.view_is)
    (gives_on (the_view c.self.inside) c.self.invariant.0 c.args.pool c.in-Some.next (sym c.in-Some.ensures.result) c.in-Call.c
    c.in-Call.is _ _ c.give_call.new.self.calls c.give.ensures c.in-Some.ensures.some c.give_call.ensures.calls))

pub returns-in-Notice-clause-given : goal.returns-in-Notice-clause-given
returns-in-Notice-clause-given c e =
    rw (← c.self.view_is)
    (gives_on_notice (the_view c.self.inside) c.self.invariant.0 c.args.pool c.in-Some.next (sym c.in-Some.ensures.result) c.in-Notice.n
    c.in-Notice.is _ _ c.give-in-Notice.new.self c.give.ensures c.in-Some.ensures.some c.give-in-Notice.ensures.list)
