use Rattle.std.proofs.Common.{ap, refl, sym, ◌∙◌}
use Rattle.spec_records.specs.Words.{interruption}
use Rattle.call_tree.specs.Calls.{dropped_at}
use Rattle.call_tree.specs.Index.{is_open}
use Rattle.call_tree.specs.declared.parts.Leave.TheVariants.{Interrupted}
use Rattle.call_tree.proofs.Looks.{same_some}
use Rattle.call_tree.proofs.Keys.{with_same}
use Rattle.call_tree.proofs.Leaving.{closed_same, open_broken, open_dropped}
use Rattle.call_tree.proofs.leave.interrupt.Goals as goal

pub returns-then-not-is_open-clause-after : goal.returns-then-not-is_open-clause-after
returns-then-not-is_open-clause-after c =
    let r = c.at-call.result.now in
    let l = c.at-call.ensures.call in
    λ x m.
    let e = same_some x r (sym m ∙ l) in
    rw (e, closed_same (interruption r.caller.0) r.stage r (sym c.is_open.ensures ∙ c.if-not-is_open.true), with_same c.args.index.now.entries c.args.key r l) refl

pub returns-clause-after : goal.returns-clause-after
returns-clause-after c =
    let r = c.end.result in
    let l = c.end.ensures.before in
    let same = same_some c.at-call.result.now r (sym c.at-call.ensures.call ∙ l) in
    let h = ap (λ y. is_open y.stage) (sym same) ∙ sym c.is_open.ensures ∙ c.if-not-is_open.false in
    let plain = (c.at-call.ensures.single.sound c.args.key r l).plain h in
    λ x m.
    let e = same_some x r (sym m ∙ l) in
    rw (e, open_broken r.stage r h plain, ← same, ← c.is_entered-abandoned.ensures, same) c.end.ensures.after

pub returns-clause-objects : goal.returns-clause-objects
returns-clause-objects c =
    let r = c.end.result in
    let l = c.end.ensures.before in
    let same = same_some c.at-call.result.now r (sym c.at-call.ensures.call ∙ l) in
    let h = ap (λ y. is_open y.stage) (sym same) ∙ sym c.is_open.ensures ∙ c.if-not-is_open.false in
    λ x m. open_dropped r.stage r.objects h (c.at-call.ensures.single.sound c.args.key r l).bare ∙ ap (λ y. dropped_at Interrupted y.stage y.objects) (same_some r x (sym l ∙ m))
