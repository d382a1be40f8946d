use Rattle.std.proofs.Common.{sym, subst}
use Rattle.server_pool.specs.Words.{AllBelow, IsBelow}
use Rattle.server_pool.proofs.Order.{ordered_push}
use Rattle.server_pool.proofs.spares.Spares.add.Goals as goal
use Rattle.server_pool.proofs.spares.Spares.add.Goals.{in-Ok, in-Err}

pub invariant_of-self : goal.invariant_of-self
invariant_of-self c =
    let spares = c.self.inside.threads.items in
    let above : AllBelow c.args.t.0 spares = subst (λ s. AllBelow c.args.t.0 s) (sym c.self.view_is) c.requires in
    elim c.match-push_back.branch [
      | in-Ok w ↦ rw w.in-Ok.ensures.items (ordered_push IsBelow spares c.args.t.0 c.self.invariant above)
      | in-Err w ↦ rw w.in-Err.ensures.items c.self.invariant
    ]
