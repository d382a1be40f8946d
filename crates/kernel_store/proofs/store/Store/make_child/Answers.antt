use Rattle.std.proofs.Common.{rules, sym, subst}
use Rattle.law_pools.specs.Words.{IsGivenOut}
use Rattle.kernel_store.specs.Stored.{StoreValue}
use Rattle.kernel_store.proofs.Forking.{agrees_child, backed_child, knows_child, waits_child}
use Rattle.kernel_store.proofs.store.Store.make_child.Goals as goal

pub invariant_of-self : goal.invariant_of-self
invariant_of-self c =
    let table = c.self.inside.processes in
    let child = c.args.child.0 in
    let parent = c.args.parent.0 in
    rw c.make_child.ensures
    (agrees_child table child parent c.self.invariant.0, c.self.invariant.1, backed_child table child parent c.self.inside.held.calls.tree c.self.invariant.0.calls c.self.invariant.2, knows_child table child parent c.self.invariant.3, c.self.invariant.4, waits_child table child parent c.self.invariant.5)

pub returns-clause-rest : goal.returns-clause-rest
returns-clause-rest c = λ n h. record {
  given_out = subst (λ (s : StoreValue). IsGivenOut s.pools) (sym c.self.view_is) h.given_out;
  latest = search rules;
}
