use Rattle.std.proofs.Common.{arith}
use Rattle.kernel_holdings.proofs.Bounds.{references_few}
use Rattle.kernel_holdings.proofs.holdings.Holdings.are_few.Goals as goal

pub returns : goal.returns
returns c =
    λ o.
    let h = c.self.inside in
    rw (← c.self.view_is)
    (references_few h.tables h.names.names h.calls.tree c.are_sound.ensures c.self.invariant.1 (omega (arith, c.len.ensures.len, c.len.ensures.small)) o)
