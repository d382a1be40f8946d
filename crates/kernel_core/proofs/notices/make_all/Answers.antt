use Rattle.std.proofs.Common.{rules, ◌+◌, drop, ap, sym, subst, ◌∙◌}
use Rattle.kernel_store.specs.Words.{CanMake, stored_state}
use Rattle.kernel_core.specs.Watched.{make_of}
use Rattle.kernel_core.proofs.Served.{from_place, serves_place}
use Rattle.kernel_core.proofs.notices.make_all.Goals as goal

pub loop-d-preserved : goal.loop-d-preserved
loop-d-preserved c =
    let ds = c.args.ds.now in
    let i = c.loop-d.d-index in
    let next = from_place ds i c.loop-d-test.true in
    record {
      state =
          ap (λ m. make_of m (drop (i + 1) ds)) c.make_one.ensures.state ∙ ap (make_of (stored_state c.loop-d.store)) (sym next) ∙ c.loop-d.invariant.state;
      within = search rules;
      room = c.make_one.ensures.left (drop (i + 1) ds) (subst (CanMake c.loop-d.store) next c.loop-d.invariant.room);
      events = search rules;
      served =
          λ touched parked h.
          c.make_one.ensures.served touched parked ds (serves_place (stored_state c.loop-d.store) ds i c.loop-d-test.true) (c.loop-d.invariant.served touched parked h);
    }
