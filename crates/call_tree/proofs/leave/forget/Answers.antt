use Rattle.std.proofs.Common.{ap, sym, ◌∙◌}
use Rattle.call_tree.specs.Calls.{transit_at}
use Rattle.call_tree.proofs.Looks.{same_some}
use Rattle.call_tree.proofs.Leaving.{held_dropped}
use Rattle.call_tree.proofs.leave.forget.Goals as goal

pub returns-clause-objects : goal.returns-clause-objects
returns-clause-objects c =
    let r = c.remove-call.result in
    let e = c.remove-call.ensures in
    λ x m.
    c.held_at.ensures
    ∙ held_dropped r.stage r.objects (e.single.sound c.args.key r e.before).bare
    ∙ ap (λ y. transit_at y.stage y.objects) (same_some r x (sym e.before ∙ m))
