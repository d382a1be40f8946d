use Rattle.std.proofs.Common.{rules, ◌≡◌, ap, length, ◌+◌, ◌≤◌, sym, subst, [], ◌∷◌, arith, length-append}
use Rattle.spec_records.specs.Words.{new_door}
use Rattle.server_pool.specs.Words.{PoolsValue, item_room_in}
use Rattle.law_pools.specs.Words.{Agrees, IsGivenOut}
use Rattle.law_pools.proofs.Queues.{agrees_door}
use Rattle.kernel_store.specs.Stored.{ArePlaced, StoreValue, stored_state}
use Rattle.kernel_store.proofs.Alike.{given_out_door, items_door}
use Rattle.kernel_store.proofs.There.{last_there, there_doors}
use Rattle.kernel_store.proofs.Short.{room_door}
use Rattle.kernel_store.proofs.store.Store.add_door.Goals as goal

pub invariant_of-self : goal.invariant_of-self
invariant_of-self c =
    let doors = c.self.inside.doors.items in
    let after : PoolsValue = c.add_door.new.self in
    let number : c.create_allowed-number.result ≡ length doors + 1 = search rules in (
      subst (λ doors. Agrees c.self.inside.latest c.self.inside.processes doors c.self.inside.held.calls.tree c.self.inside.notices.list after) (sym c.create_allowed-number.ensures.made)
          (agrees_door c.self.invariant.0 (new_door (length doors + 1) c.args.owner.0 c.args.entry c.args.cookie c.args.attrs) after
          (subst (λ (s : StoreValue). ArePlaced (stored_state s)) (sym c.self.view_is) c.requires.placed)
          (ap (λ (v : PoolsValue). v.bindings) c.add_door.ensures) (ap (λ (v : PoolsValue). v.common) c.add_door.ensures)
          (ap (λ (v : PoolsValue). v.spares) c.add_door.ensures) (ap (λ (v : PoolsValue). v.private) c.add_door.ensures)),
      there_doors doors c.create_allowed-number.new.self.items c.self.inside.held
          (omega (arith, ap length c.create_allowed-number.ensures.made, length-append doors (new_door (length doors + 1) c.args.owner.0 c.args.entry c.args.cookie c.args.attrs ∷ []))) c.self.invariant.1,
      c.self.invariant.2,
      c.self.invariant.3,
      rw c.push.ensures.items
          (room_door c.self.inside.short.items c.self.inside.pools c.self.invariant.4 after c.create_allowed-number.result (omega (arith, number, c.self.invariant.0.private)) (ap (λ (v : PoolsValue). v.common) c.add_door.ensures)
          (ap (λ (v : PoolsValue). v.private) c.add_door.ensures)),
      c.self.invariant.5,
    )

pub returns-clause-keeps : goal.returns-clause-keeps
returns-clause-keeps c =
    let common = ap (λ (v : PoolsValue). v.common) c.add_door.ensures in
    let private = ap (λ (v : PoolsValue). v.private) c.add_door.ensures in
    record {
      given_out = λ h.
          given_out_door c.self.inside.pools c.add_door.new.self common private
          (subst (λ (s : StoreValue). IsGivenOut s.pools) (sym c.self.view_is) h);
      latest = search rules;
      opening = search rules;
      notice_room = search rules;
      short_room = search rules;
      items = λ pool.
          subst (λ (s : StoreValue). item_room_in s.pools pool ≤ item_room_in c.add_door.new.self pool) c.self.view_is
          (items_door c.self.inside.pools c.add_door.new.self common private pool);
    }

pub returns-clause-there : goal.returns-clause-there
returns-clause-there c =
    let doors = c.self.inside.doors.items in
    let number : c.create_allowed-number.result ≡ length doors + 1 = search rules in
    rw c.create_allowed-number.ensures.made (last_there doors (new_door (length doors + 1) c.args.owner.0 c.args.entry c.args.cookie c.args.attrs) c.create_allowed-number.result number)
