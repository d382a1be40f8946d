use Rattle.kernel_store.specs.Turning.{KnowsPaths, KnowsPorts}
use Rattle.kernel_store.proofs.Knowing.{knows_added}
use Rattle.std.proofs.Common.{rules, ◌≡◌, ℕ, ◌+◌, ◌++◌, ◌∷◌, ◌||◌, [], Bool, true, false, ap, sym, ◌∙◌, subst, subst₂, length, arith}
use Rattle.dk_base.specs.ByNumber.{at_number}
use Rattle.spec_records.specs.Words.{ProcessTable, is_live_in, is_unborn_in, new_thread_where}
use Rattle.server_pool.specs.Words.{PoolsValue, change_at_number, change_spares, with_spare, without_highest}
use Rattle.law_pools.specs.Words.{Agrees, IsGivenOut}
use Rattle.kernel_store.specs.Noticing.{HaveItemRoomBut}
use Rattle.kernel_store.specs.Stored.{ReferToDoors, StoreValue}
use Rattle.kernel_store.proofs.Short.{room_spares}
use Rattle.exit_paths.proofs.Alike.{agrees_same}
use Rattle.kernel_store.proofs.Threads.{agrees_awake, agrees_dormant, is_there, same_taken_back, spares_below, where_awaits_not, where_gets_not}
use Rattle.law_calls.specs.Words.{AreBacked}
use Rattle.law_calls.proofs.Backing.{thread_added}
use Rattle.kernel_store.proofs.Waits.{waits_added}
use Rattle.kernel_store.proofs.store.Store.add_thread.Goals as goal
use Rattle.kernel_store.proofs.store.Store.add_thread.Goals.{then-dormant+in_ok-add_spare, else-dormant}

not_both : {b : Bool} → b ≡ true → b ≡ false → ⊥
not_both e f = absurd cc

pub add_spare-requires : goal.add_spare-requires
add_spare-requires c =
    spares_below c.self.invariant.0 c.args.p.0 (c.thread_count.result + 1) (rw c.thread_count.ensures.count (omega arith))

pub returns-in_err-add_spare-clause-rest : goal.returns-in_err-add_spare-clause-rest
returns-in_err-add_spare-clause-rest c = λ n h. record {
  given_out =
      subst IsGivenOut (sym c.in_err-add_spare.ensures.err) (subst (λ (s : StoreValue). IsGivenOut s.pools) (sym c.self.view_is) h.given_out);
  latest = search rules;
}

pub invariant_of-self-then-is_ok : goal.invariant_of-self-then-is_ok
invariant_of-self-then-is_ok c =
    let before : ProcessTable = c.self.inside.processes in
    let v : PoolsValue = c.self.inside.pools in
    let unborn : Bool = is_unborn_in (at_number before.processes c.args.p.0) in
    elim c.if-dormant.branch [
      | then-dormant+in_ok-add_spare w ↦
          let made : c.add_thread.new.processes ≡ record before { threads = before.threads ++ new_thread_where unborn (length before.threads + 1) c.args.p.0 c.args.spare ∷ [] } = search rules in
          let lives = subst (λ (s : StoreValue). (is_live_in (at_number s.processes.processes c.args.p.0) || is_unborn_in (at_number s.processes.processes c.args.p.0)) ≡ true) (sym c.self.view_is) c.requires.lives in
          let added : w.add_spare.new.self ≡ change_spares v c.args.p.0 (with_spare (length before.threads + 1)) =
          w.in_ok-add_spare.ensures.ok ∙ ap (λ n. change_spares v c.args.p.0 (with_spare (n + 1))) c.thread_count.ensures.count in
          subst (λ s. Agrees s.latest c.add_thread.new.processes s.doors.items s.held.calls.tree s.notices.list s.pools × ReferToDoors s.doors.items s.held × AreBacked c.add_thread.new.processes s.held.calls.tree.calls × KnowsPaths c.add_thread.new.processes s.held.names.names s.named × HaveItemRoomBut s.short.items s.pools × KnowsPorts c.add_thread.new.processes s.held s.ports.ports.ports s.ended) (sym w.self-inside-is) (
            subst₂ (λ table v. Agrees c.self.inside.latest table c.self.inside.doors.items c.self.inside.held.calls.tree c.self.inside.notices.list v)
                (sym made)
                (sym added)
                (agrees_dormant c.self.invariant.0 c.args.p.0 unborn c.args.spare c.begins_dormant-dormant.result c.begins_dormant-dormant.ensures w.if-dormant.true (is_there (at_number before.processes c.args.p.0) lives)),
            c.self.invariant.1,
            subst (λ table. AreBacked table c.self.inside.held.calls.tree.calls) (sym made)
                (thread_added before c.self.inside.held.calls.tree c.self.invariant.0.calls c.self.invariant.2 (new_thread_where unborn (length before.threads + 1) c.args.p.0 c.args.spare)),
            subst (λ table. KnowsPaths table c.self.inside.held.names.names c.self.inside.named) (sym made)
                (knows_added before (new_thread_where unborn (length before.threads + 1) c.args.p.0 c.args.spare) (where_awaits_not unborn (length before.threads + 1) c.args.p.0 c.args.spare) c.self.invariant.3),
            rw w.in_ok-add_spare.ensures.ok (room_spares c.self.inside.short.items c.self.inside.pools c.self.invariant.4 (change_at_number v.spares c.args.p.0 (with_spare (c.thread_count.result + 1)))),
            subst (λ table. KnowsPorts table c.self.inside.held c.self.inside.ports.ports.ports c.self.inside.ended) (sym made)
                (waits_added before (new_thread_where unborn (length before.threads + 1) c.args.p.0 c.args.spare) (where_gets_not unborn (length before.threads + 1) c.args.p.0 c.args.spare) c.self.invariant.5),
          )
      | else-dormant w ↦
          let made : c.add_thread.new.processes ≡ record before { threads = before.threads ++ new_thread_where unborn (length before.threads + 1) c.args.p.0 c.args.spare ∷ [] } = search rules in
          subst (λ s. Agrees s.latest c.add_thread.new.processes s.doors.items s.held.calls.tree s.notices.list s.pools × ReferToDoors s.doors.items s.held × AreBacked c.add_thread.new.processes s.held.calls.tree.calls × KnowsPaths c.add_thread.new.processes s.held.names.names s.named × HaveItemRoomBut s.short.items s.pools × KnowsPorts c.add_thread.new.processes s.held s.ports.ports.ports s.ended) (sym w.self-inside-is) (
            subst (λ table. Agrees c.self.inside.latest table c.self.inside.doors.items c.self.inside.held.calls.tree c.self.inside.notices.list v)
                (sym made)
                (agrees_awake c.self.invariant.0 c.args.p.0 unborn c.args.spare c.begins_dormant-dormant.result c.begins_dormant-dormant.ensures w.if-dormant.false),
            c.self.invariant.1,
            subst (λ table. AreBacked table c.self.inside.held.calls.tree.calls) (sym made)
                (thread_added before c.self.inside.held.calls.tree c.self.invariant.0.calls c.self.invariant.2 (new_thread_where unborn (length before.threads + 1) c.args.p.0 c.args.spare)),
            subst (λ table. KnowsPaths table c.self.inside.held.names.names c.self.inside.named) (sym made)
                (knows_added before (new_thread_where unborn (length before.threads + 1) c.args.p.0 c.args.spare) (where_awaits_not unborn (length before.threads + 1) c.args.p.0 c.args.spare) c.self.invariant.3),
            c.self.invariant.4,
            subst (λ table. KnowsPorts table c.self.inside.held c.self.inside.ports.ports.ports c.self.inside.ended) (sym made)
                (waits_added before (new_thread_where unborn (length before.threads + 1) c.args.p.0 c.args.spare) (where_gets_not unborn (length before.threads + 1) c.args.p.0 c.args.spare) c.self.invariant.5),
          )
    ]

pub returns-then-is_ok-clause-rest : goal.returns-then-is_ok-clause-rest
returns-then-is_ok-clause-rest c = λ n h. record {
  given_out =
      let before = subst (λ (s : StoreValue). IsGivenOut s.pools) (sym c.self.view_is) h.given_out in
      elim c.if-dormant.branch [
        | then-dormant+in_ok-add_spare w ↦
            subst (λ s. IsGivenOut s.pools) (sym w.self-inside-is) (subst IsGivenOut (sym w.in_ok-add_spare.ensures.ok) before)
        | else-dormant w ↦ subst (λ s. IsGivenOut s.pools) (sym w.self-inside-is) before
      ];
  latest = search rules;
}

pub invariant_of-self-then-dormant-2 : goal.invariant_of-self-then-dormant-2
invariant_of-self-then-dormant-2 c =
    let v : PoolsValue = c.self.inside.pools in
    let k : ℕ = c.thread_count.result + 1 in
    elim c.if-dormant.branch [
      | then-dormant+in_ok-add_spare w ↦
          let kept : c.add_thread.new.processes ≡ c.self.inside.processes = search rules in
          let back : c.take_back.new.self ≡ change_spares (change_spares v c.args.p.0 (with_spare k)) c.args.p.0 without_highest =
          c.take_back.ensures ∙ ap (λ s. change_spares s.pools c.args.p.0 without_highest) w.self-inside-is
          ∙ ap (λ v. change_spares v c.args.p.0 without_highest) w.in_ok-add_spare.ensures.ok in
          subst (λ s. Agrees s.latest c.add_thread.new.processes s.doors.items s.held.calls.tree s.notices.list c.take_back.new.self × ReferToDoors s.doors.items s.held × AreBacked c.add_thread.new.processes s.held.calls.tree.calls × KnowsPaths c.add_thread.new.processes s.held.names.names s.named × HaveItemRoomBut s.short.items c.take_back.new.self × KnowsPorts c.add_thread.new.processes s.held s.ports.ports.ports s.ended) (sym w.self-inside-is) (
            subst₂ (λ table v. Agrees c.self.inside.latest table c.self.inside.doors.items c.self.inside.held.calls.tree c.self.inside.notices.list v) (sym kept) (sym back)
                (agrees_same c.self.invariant.0 (same_taken_back v c.args.p.0 k)),
            c.self.invariant.1,
            subst (λ table. AreBacked table c.self.inside.held.calls.tree.calls) (sym kept) c.self.invariant.2,
            subst (λ table. KnowsPaths table c.self.inside.held.names.names c.self.inside.named) (sym kept) c.self.invariant.3,
            rw back (room_spares c.self.inside.short.items (change_spares v c.args.p.0 (with_spare k))
                (room_spares c.self.inside.short.items c.self.inside.pools c.self.invariant.4 (change_at_number v.spares c.args.p.0 (with_spare k)))
                (change_at_number (change_at_number v.spares c.args.p.0 (with_spare k)) c.args.p.0 without_highest)),
            subst (λ table. KnowsPorts table c.self.inside.held c.self.inside.ports.ports.ports c.self.inside.ended) (sym kept) c.self.invariant.5,
          )
      | else-dormant w ↦ absurd (not_both c.if-dormant-2.true w.if-dormant.false)
    ]

pub returns-then-dormant-2-clause-rest : goal.returns-then-dormant-2-clause-rest
returns-then-dormant-2-clause-rest c = λ n h. record {
  given_out =
      let v : PoolsValue = c.self.inside.pools in
      let before = subst (λ (s : StoreValue). IsGivenOut s.pools) (sym c.self.view_is) h.given_out in
      elim c.if-dormant.branch [
        | then-dormant+in_ok-add_spare w ↦
            subst IsGivenOut (sym c.take_back.ensures)
            (subst (λ s. IsGivenOut s.pools) (sym w.self-inside-is) (subst IsGivenOut (sym w.in_ok-add_spare.ensures.ok) before))
        | else-dormant w ↦ absurd (not_both c.if-dormant-2.true w.if-dormant.false)
      ];
  latest = search rules;
}

pub returns-else-dormant-2-clause-rest : goal.returns-else-dormant-2-clause-rest
returns-else-dormant-2-clause-rest c = λ n h. record {
  given_out =
      let before = subst (λ (s : StoreValue). IsGivenOut s.pools) (sym c.self.view_is) h.given_out in
      elim c.if-dormant.branch [
        | then-dormant+in_ok-add_spare w ↦ absurd (not_both w.if-dormant.true c.if-dormant-2.false)
        | else-dormant w ↦ subst (λ s. IsGivenOut s.pools) (sym w.self-inside-is) before
      ];
  latest = search rules;
}
