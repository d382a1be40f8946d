use Rattle.std.proofs.Common.{◌≤◌, ◌∙◌, ap, rules, sym, subst}
use Rattle.server_pool.specs.Words.{PoolsValue, item_room_in, thread_room_in}
use Rattle.law_pools.specs.Words.{IsGivenOut}
use Rattle.kernel_store.specs.Stored.{StoreValue}
use Rattle.exit_paths.specs.Words.{HasNoLessRoom, HoldsSame}
use Rattle.kernel_store.proofs.Acts.{fills, fills_same}
use Rattle.exit_paths.proofs.MadeRoom.{room_made}
use Rattle.exit_paths.proofs.Alike.{agrees_same, same_in_room}
use Rattle.kernel_store.proofs.Alike.{given_out_same}
use Rattle.kernel_store.proofs.Short.{no_less_room, room_doors}
use Rattle.kernel_store.proofs.store.Store.reserve.Goals as goal

pub returns-in_err-reserve-clause-keeps : goal.returns-in_err-reserve-clause-keeps
returns-in_err-reserve-clause-keeps c = fills_same (search rules)

pub returns-in_err-reserve-2-clause-keeps : goal.returns-in_err-reserve-2-clause-keeps
returns-in_err-reserve-2-clause-keeps c = fills_same (search rules)

pub returns-in_err-reserve_door-clause-keeps : goal.returns-in_err-reserve_door-clause-keeps
returns-in_err-reserve_door-clause-keeps c =
    fills
    (λ h. subst IsGivenOut (sym c.in_err-reserve_door.ensures.err) (subst (λ (s : StoreValue). IsGivenOut s.pools) (sym c.self.view_is) h))
    (search rules) (search rules) (search rules) (search rules) (λ pool. search rules)

pub returns-in_err-reserve-3-clause-keeps : goal.returns-in_err-reserve-3-clause-keeps
returns-in_err-reserve-3-clause-keeps c =
    fills (λ h. subst (λ (s : StoreValue). IsGivenOut s.pools) (sym c.self.view_is) h) (search rules) (search rules) (search rules) (search rules) (λ pool. search rules)

pub invariant_of-self-2 : goal.invariant_of-self-2
invariant_of-self-2 c =
    let same : HoldsSame c.self.inside.pools c.room.new.self =
    same_in_room c.self.inside.pools c.reserve_door.new.self c.room.new.self c.reserve_door.new.self.door_room
    (thread_room_in c.room.new.self c.args.touched) (item_room_in c.room.new.self c.args.touched) c.args.touched
    c.reserve_door.ensures.same c.room.ensures.same in
    rw c.reserve.ensures.calls
    (rw (c.reserve.ensures.tables, c.reserve.ensures.names) (rw c.reserve-2.ensures.items (
      agrees_same c.self.invariant.0 same,
      c.self.invariant.1,
      c.self.invariant.2,
      c.self.invariant.3,
      rw c.reserve-3.ensures.items (no_less_room c.self.inside.short.items c.reserve_door.new.self c.room.new.self (rw c.reserve_door.ensures.same (room_doors c.self.inside.short.items c.self.inside.pools c.self.invariant.4 c.reserve_door.new.self.door_room)) (room_made c.reserve_door.new.self c.room.new.self c.args.touched (thread_room_in c.room.new.self c.args.touched)
          (item_room_in c.room.new.self c.args.touched) c.room.ensures.same c.room.ensures.threads c.room.ensures.items)),
      c.self.invariant.5,
    )))

pub returns-clause-keeps : goal.returns-clause-keeps
returns-clause-keeps c = record {
  given_out = λ h.
      let same : HoldsSame c.self.inside.pools c.room.new.self =
      same_in_room c.self.inside.pools c.reserve_door.new.self c.room.new.self c.reserve_door.new.self.door_room
      (thread_room_in c.room.new.self c.args.touched) (item_room_in c.room.new.self c.args.touched) c.args.touched
      c.reserve_door.ensures.same c.room.ensures.same in
      given_out_same c.self.inside.pools c.room.new.self same (subst (λ (s : StoreValue). IsGivenOut s.pools) (sym c.self.view_is) h);
  latest = search rules;
  opening = search rules;
  notice_room = search rules;
  short_room = search rules;
  items = λ pool.
      let made : HasNoLessRoom c.reserve_door.new.self c.room.new.self =
      room_made c.reserve_door.new.self c.room.new.self c.args.touched (thread_room_in c.room.new.self c.args.touched)
      (item_room_in c.room.new.self c.args.touched) c.room.ensures.same c.room.ensures.threads c.room.ensures.items in
      let same = ap (λ (v : PoolsValue). item_room_in v pool) c.reserve_door.ensures.same ∙ ap (λ (s : StoreValue). item_room_in s.pools pool) c.self.view_is in
      subst (λ k. k ≤ item_room_in c.room.new.self pool) same (made.items pool);
}
