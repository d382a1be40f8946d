use Rattle.kernel_store.specs.Turning.{KnowsPaths}
use Rattle.std.proofs.Common.{rules, ◌+◌, ◌∷◌, [], ap, arith, length, length-append, refl, sym, subst}
use Rattle.spec_records.specs.Words.{ProcessTable, new_process, pid}
use Rattle.server_pool.specs.Words.{PoolsValue}
use Rattle.law_pools.specs.Words.{Agrees, IsGivenOut}
use Rattle.law_pools.proofs.Starting.{agrees_process}
use Rattle.kernel_store.specs.Stored.{StoreValue}
use Rattle.kernel_store.proofs.Alike.{given_out_process}
use Rattle.law_calls.specs.Words.{AreBacked}
use Rattle.law_calls.proofs.Backing.{processes_changed}
use Rattle.kernel_store.proofs.There.{there_fewer}
use Rattle.kernel_store.proofs.Short.{room_process}
use Rattle.kernel_store.proofs.Waits.{waits_kept}
use Rattle.dk_base.specs.declared.object.Obj.TheVariants as obj
use Rattle.kernel_store.proofs.store.Store.with_process.Goals as goal

pub invariant_of-self : goal.invariant_of-self
invariant_of-self c =
    let before : ProcessTable = c.self.inside.processes in
    let after : PoolsValue = c.add_process.new.pools in
    let made = c.in_ok-add_process.ensures.processes in
    let pools = c.in_ok-add_process.ensures.pools in
    rw c.in_ok-add_process.ensures.held (
      subst (λ table. Agrees c.self.inside.latest table c.self.inside.doors.items c.self.inside.held.calls.tree c.self.inside.notices.list after) (sym made)
          (agrees_process c.self.invariant.0 (new_process (length before.processes + 1) c.args.limit) after
          (ap (λ (v : PoolsValue). v.bindings) pools) (ap (λ (v : PoolsValue). v.private) pools)
          (ap (λ (v : PoolsValue). v.common) pools) (ap (λ (v : PoolsValue). v.spares) pools)),
      rw c.in_ok-add_process.ensures.held at (there_fewer c.self.inside.doors.items c.self.inside.held c.add_process.new.held c.self.invariant.1 c.add_process.ensures.references),
      subst (λ table. AreBacked table c.self.inside.held.calls.tree.calls) (sym made)
          (processes_changed before c.self.inside.held.calls.tree c.self.invariant.0.calls c.self.invariant.2 _),
      subst (λ table. KnowsPaths table c.self.inside.held.names.names c.self.inside.named) (sym made) (record { known = c.self.invariant.3.known }),
      rw c.in_ok-add_process.ensures.short
          (room_process c.self.inside.short.items c.self.inside.pools c.self.invariant.4 after (pid (length before.processes + 1)) (omega (arith, ap (λ (t : ProcessTable). length t.processes) made, length-append before.processes (new_process (length before.processes + 1) c.args.limit ∷ []), c.self.invariant.0.common)) (ap (λ (v : PoolsValue). v.private) pools)
          (ap (λ (v : PoolsValue). v.common) pools)),
      rw c.in_ok-add_process.ensures.held at (waits_kept c.add_process.new.processes c.self.inside.held c.add_process.new.held c.self.inside.ports.ports.ports c.self.inside.ended (λ q. c.add_process.ensures.others (obj.Port q) refl)
          (rw made (record { known = c.self.invariant.5.known }))),
    )

pub returns-clause-rest : goal.returns-clause-rest
returns-clause-rest c = λ n h. record {
  given_out =
      let pools = c.in_ok-add_process.ensures.pools in
      given_out_process c.self.inside.pools c.add_process.new.pools (ap (λ (v : PoolsValue). v.private) pools)
      (ap (λ (v : PoolsValue). v.common) pools) (subst (λ (s : StoreValue). IsGivenOut s.pools) (sym c.self.view_is) h.given_out);
  latest = search rules;
}
