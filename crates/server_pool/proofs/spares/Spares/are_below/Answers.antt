use Rattle.std.proofs.Common.{sym, ◌∙◌}
use Rattle.server_pool.proofs.Order.{all_below_is, is_all_below}
use Rattle.server_pool.proofs.spares.Spares.are_below.Goals as goal

pub returns : goal.returns
returns c =
    let t = c.args.t.0 in
    let spares = c.self.inside.threads.items in
    rw (← c.self.view_is) (λ h. all_below_is t spares (sym c.all_below.ensures ∙ h), λ a. c.all_below.ensures ∙ is_all_below t spares a)
