use Rattle.std.proofs.Common.{ap, arith}
use Rattle.kernel_holdings.proofs.TransitCounts.{give_call-in_transit, transit_same}
use Rattle.kernel_holdings.proofs.Bounds.{few_changed, holds_calls, queued_few}
use Rattle.spec_records.specs.Words.{is_object, is_queued_as}
use Rattle.kernel_holdings.proofs.Carried.{carried_same, each}
use Rattle.kernel_holdings.specs.Words.{HoldingsValue, references_of}
use Rattle.kernel_holdings.proofs.holdings.Holdings.give_call.Goals as goal

pub invariant_of-self : goal.invariant_of-self
invariant_of-self c =
    let h = c.self.inside in (
      transit_same h.counts.counts h.tables h.names.names h.calls.tree.calls c.self.invariant.0 c.give.new.self.tree.calls
          (λ o. rw c.give.ensures.tree (give_call-in_transit (is_object o) h.calls.tree c.args.c c.args.to.0)),
      holds_calls h.tables h.calls.tree.calls _ c.self.invariant.1
          (rw c.give.ensures.tree (few_changed (is_queued_as c.args.c) _ (queued_few c.args.c c.args.to.0) h.calls.tree.calls c.self.invariant.1.transit)),
      carried_same h.carried h.calls.tree.calls c.give.new.self.tree.calls c.self.invariant.2 (rw c.give.ensures.tree (give_call-in_transit each h.calls.tree c.args.c c.args.to.0)),
    )

pub returns-clause-references : goal.returns-clause-references
returns-clause-references c = λ o. omega (arith, (invariant_of-self c).0 o, c.self.invariant.0 o, ap (λ (v : HoldingsValue). references_of v o) c.self.view_is)

pub returns-clause-others : goal.returns-clause-others
returns-clause-others c = λ o none. omega (arith, (invariant_of-self c).0 o, c.self.invariant.0 o, none, ap (λ (v : HoldingsValue). references_of v o) c.self.view_is)
