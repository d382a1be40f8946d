use Rattle.std.proofs.Common.{◌≡◌, ◌-◌, ◌+◌, ◌<◌, ap, sym, ◌∙◌, arith}
use Rattle.call_tree.specs.Chains.{at, walk}
use Rattle.call_tree.proofs.Chain.{walk_more}
use Rattle.call_tree.proofs.shuttles.walk.Goals as goal

pub loop-step-preserved : goal.loop-step-preserved
loop-step-preserved c =
    let n = c.args.steps - c.loop-step._step in
    let u = c.at.result in
    let left : n - 1 ≡ c.args.steps - (c.loop-step._step + 1) = omega arith in
    let p : 0 < u = omega (arith, c.in_default) in
    c.loop-step.invariant
    ∙ walk_more (at c.args.next.now) n c.loop-step.t u (omega arith) (sym c.at.ensures) p
    ∙ ap (λ j. walk j (at c.args.next.now) u) left
