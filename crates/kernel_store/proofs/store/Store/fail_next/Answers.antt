use Rattle.std.proofs.Common.{◌≡◌, ◌∙◌, false, refl, sym, subst}
use Rattle.spec_kernel.specs.Words.{has_lost_door}
use Rattle.kernel_store.specs.contracts.store.Store.{the_view}
use Rattle.kernel_store.specs.Failing.{LosesNoneIn}
use Rattle.kernel_store.specs.Stored.{StoreValue, stored_state}
use Rattle.kernel_store.proofs.FailingParts.{none_parked, pick_keeps}
use Rattle.kernel_store.proofs.store.Store.fail_next.Goals as goal

pub returns-in_default-clause-none : goal.returns-in_default-clause-none
returns-in_default-clause-none c e = (
  refl,
  subst (λ (s : StoreValue). LosesNoneIn c.args.pool (stored_state s)) c.self.view_is
      (none_parked (the_view c.self.inside) c.self.invariant.0 c.args.pool (sym c.in_default.ensures.pick)),
)

pub returns-then-not-has_lost_door-clause-none : goal.returns-then-not-has_lost_door-clause-none
returns-then-not-has_lost_door-clause-none c e = (
  refl,
  subst (λ (s : StoreValue). LosesNoneIn c.args.pool (stored_state s)) c.self.view_is
      (pick_keeps (the_view c.self.inside) c.self.invariant.0 c.args.pool c.in-Some.next (sym c.in-Some.ensures.pick)
      (subst (λ (s : StoreValue). has_lost_door (stored_state s) c.in-Some.next.thread.0 ≡ false) (sym c.self.view_is) (sym c.has_lost_door.ensures ∙ c.if-not-has_lost_door.true))),
)
