use Rattle.std.proofs.Common.{◌≡◌, ◌+◌, ◌≤◌, ℕ, ◌∷◌, ap, sym, ◌∙◌, is_some, true, refl, subst}
use Rattle.dk_base.specs.declared.object.Item.TheVariants as item
use Rattle.spec_records.specs.Words.{make_notice, new_notice, waiting_notice, NoticeList}
use Rattle.spec_kernel.specs.Types.{Pool, Waiting}
use Rattle.spec_kernel.specs.Words.{is_valid}
use Rattle.server_pool.specs.Words.{PoolsValue, change_pool, enqueue_in, pool_at}
use Rattle.law_pools.specs.Words.{Agrees}
use Rattle.law_pools.proofs.Noticing.{agrees_make}
use Rattle.kernel_store.specs.contracts.store.Store.{the_view}
use Rattle.spec_kernel.specs.Words.{pool_of}
use Rattle.kernel_store.specs.Frames.{CanSettle, serves_any}
use Rattle.kernel_store.specs.Stored.{ArePlaced, CanMake, StoreValue, stored_state}
use Rattle.kernel_store.proofs.Made.{served_there}
use Rattle.kernel_store.proofs.MadeNotice.{can_make_others, listing_left, number_left, place_left, record_room, served_made}
use Rattle.kernel_store.proofs.Short.{room_filled}
use Rattle.kernel_store.proofs.store.Store.make_notice.Goals as goal

pub make-number-requires-clause-room : goal.make-number-requires-clause-room
make-number-requires-clause-room c = record_room c.self.view_is c.args.d c.requires.room

pub make-number-requires-clause-numbers : goal.make-number-requires-clause-numbers
make-number-requires-clause-numbers c = number_left c.self.view_is c.args.d c.requires.room

pub enqueue_fitting-requires-clause-room : goal.enqueue_fitting-requires-clause-room
enqueue_fitting-requires-clause-room c =
    let door = subst (λ (s : StoreValue). is_valid (stored_state s) c.args.d ≡ true) (sym c.self.view_is) c.requires.valid in
    let placed = subst (λ (s : StoreValue). ArePlaced (stored_state s)) (sym c.self.view_is) c.requires.within.placed in
    let there : is_some (pool_at c.self.inside.pools c.pool_of-pool.result) ≡ true =
    ap (λ pool. is_some (pool_at c.self.inside.pools pool)) c.pool_of-pool.ensures ∙ served_there c.self.invariant.0 placed c.args.d door in
    place_left c.self.view_is c.args.d c.requires.room c.pool_of-pool.result c.pool_of-pool.ensures there

pub push-requires : goal.push-requires
push-requires c = listing_left c.self.view_is c.args.d c.requires.room

pub invariant_of-self : goal.invariant_of-self
invariant_of-self c =
    let s = c.self.inside in
    let now : ℕ = s.events + 1 in
    let v : PoolsValue = s.pools in
    let pool : Pool = c.pool_of-pool.result in
    let door = subst (λ (s : StoreValue). is_valid (stored_state s) c.args.d ≡ true) (sym c.self.view_is) c.requires.valid in
    let placed = subst (λ (s : StoreValue). ArePlaced (stored_state s)) (sym c.self.view_is) c.requires.within.placed in
    let later : s.latest ≤ now = subst (λ (s : StoreValue). s.latest ≤ s.events + 1) (sym c.self.view_is) c.requires.within.latest in
    let there : is_some (pool_at v pool) ≡ true =
    ap (λ pool. is_some (pool_at v pool)) c.pool_of-pool.ensures ∙ served_there c.self.invariant.0 placed c.args.d door in
    let taken : c.enqueue_fitting.new.self ≡ change_pool v pool (enqueue_in (waiting_notice (new_notice (s.notices.list.made + 1) now c.args.d))) =
    c.enqueue_fitting.ensures
    ∙ ap (λ k. change_pool v pool (enqueue_in (record { item = item.Notice k; made = now; door = c.args.d }))) c.make-number.ensures.number in (
      subst (λ list. Agrees now s.processes s.doors.items s.held.calls.tree list c.enqueue_fitting.new.self) (sym c.make-number.ensures.list)
          (subst (Agrees now s.processes s.doors.items s.held.calls.tree (make_notice s.notices.list now c.args.d)) (sym taken)
          (agrees_make c.self.invariant.0 now c.args.d pool later c.pool_of-pool.ensures there)),
      c.self.invariant.1,
      c.self.invariant.2,
      c.self.invariant.3,
      rw (c.push.ensures.items, c.enqueue_fitting.ensures) (room_filled c.self.inside.short.items c.self.inside.pools c.self.invariant.4 pool (record { item = item.Notice c.make-number.result; made = now; door = c.args.d })),
      c.self.invariant.5,
    )

pub returns-clause-left : goal.returns-clause-left
returns-clause-left c = λ ds can.
    let s = c.self.inside in
    let v : PoolsValue = s.pools in
    let pool : Pool = c.pool_of-pool.result in
    let w : Waiting = record { item = item.Notice c.make-number.result; made = s.events + 1; door = c.args.d } in
    can_make_others (the_view s) (record (the_view s) { pools = c.enqueue_fitting.new.self; notices = c.make-number.new.self; latest = s.events + 1; short_room = c.push.new.self.spare }) c.args.d ds
    pool w c.pool_of-pool.ensures c.enqueue_fitting.ensures refl c.make-number.ensures.spare (ap (λ (l : NoticeList). l.made) c.make-number.ensures.list) c.push.ensures.spare
    (subst (λ (x : StoreValue). CanMake x (c.args.d ∷ ds)) (sym c.self.view_is) can)

pub returns-clause-served : goal.returns-clause-served
returns-clause-served c = λ touched parked ds served can.
    let s = c.self.inside in
    let w : Waiting = record { item = item.Notice c.make-number.result; made = s.events + 1; door = c.args.d } in
    served_made (the_view s) c.make-number.new.self c.enqueue_fitting.new.self (s.events + 1) c.push.new.self.spare c.args.d c.pool_of-pool.result w touched parked ds
    c.pool_of-pool.ensures c.enqueue_fitting.ensures
    (subst (λ (x : StoreValue). serves_any (stored_state x) ds (pool_of (stored_state x) c.args.d) ≡ true) (sym c.self.view_is) served)
    (subst (CanSettle touched parked ds) (sym c.self.view_is) can)
