use Rattle.std.proofs.Common.{ap, arith}
use Rattle.dk_base.specs.declared.error.Errno.TheVariants.{EINVAL}
use Rattle.kernel_holdings.proofs.NameCounts.{name_fewer}
use Rattle.kernel_holdings.specs.Words.{HoldingsValue, references_of}
use Rattle.dk_base.specs.declared.object.Obj.TheVariants as obj
use Rattle.kernel_holdings.proofs.holdings.Holdings.detach.Goals as goal

pub invariant_of-self : goal.invariant_of-self
invariant_of-self c =
    let h = c.self.inside in
    let down = c.down.ensures in
    let fewer =
    name_fewer h.counts.counts h.tables h.names.names h.calls.tree.calls c.self.invariant.0 c.down.new.self.counts c.args.path EINVAL c.in-Ok.door
    c.detach.ensures.distinct c.in-Ok.ensures.answer down.counts in (
      rw c.detach.ensures.names fewer,
      c.self.invariant.1,
      c.self.invariant.2,
    )

pub returns-in-Ok-clause-references : goal.returns-in-Ok-clause-references
returns-in-Ok-clause-references c = λ o. omega (arith, (invariant_of-self c).0 o, c.self.invariant.0 o, c.down.ensures.counts o, ap (λ (v : HoldingsValue). references_of v o) c.self.view_is)

pub returns-in-Ok-clause-ports : goal.returns-in-Ok-clause-ports
returns-in-Ok-clause-ports c = λ q.
    let port = obj.Port q in
    omega (arith, (invariant_of-self c).0 port, c.self.invariant.0 port, c.down.ensures.counts port, ap (λ (v : HoldingsValue). references_of v port) c.self.view_is)
