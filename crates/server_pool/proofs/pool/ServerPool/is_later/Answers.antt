use Rattle.std.proofs.Common.{refl, sym, subst}
use Rattle.server_pool.specs.Words.{AllParkedBefore}
use Rattle.server_pool.proofs.Order.{after_pick, none_parked, pick_before}
use Rattle.server_pool.proofs.pool.ServerPool.is_later.Goals as goal

pub returns-in-Some : goal.returns-in-Some
returns-in-Some c =
    let parked = c.args.self.now.parked in
    let top = c.in-Some.top in
    let before = c.parked_before.ensures in (
      λ h. after_pick parked c.args.x top c.pick.ensures.stack (sym c.in-Some.ensures.pick) (before.0 h),
      λ a. before.1 (pick_before parked c.args.x top c.pick.ensures.stack a (sym c.in-Some.ensures.pick)),
    )

pub returns-in-None : goal.returns-in-None
returns-in-None c =
    let parked = c.args.self.now.parked in
    let none = none_parked parked c.pick.ensures.stack (sym c.in-None.ensures.pick) in
    (λ _. subst (λ xs. AllParkedBefore xs c.args.x) (sym none) tt, λ _. refl)
