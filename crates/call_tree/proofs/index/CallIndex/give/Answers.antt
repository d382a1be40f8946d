use Rattle.std.proofs.Common.{ap, arith, refl, sym}
use Rattle.spec_records.specs.declared.record.CallStage.TheVariants as stage
use Rattle.spec_records.specs.Words.{at_stage, is_to_collect, tid}
use Rattle.call_tree.proofs.Changes.{look_changed, look_kept}
use Rattle.call_tree.proofs.Collecting.{collecting_kept}
use Rattle.call_tree.proofs.Whole.{can_link, given, queued_there}
use Rattle.call_tree.proofs.index.CallIndex.give.Goals as goal

pub bounds-self-inside-caller : goal.bounds-self-inside-caller
bounds-self-inside-caller c = omega (arith, (c.self.invariant.0.indexed.sound c.args.key c.at-call.result.now c.at-call.ensures).caller.1)

pub link-requires : goal.link-requires
link-requires c =
    let q = queued_there c.args.key c.self.inside.records.entries c.at-call.result.now c.at-call.ensures (rw (← c.self.view_is) at c.requires.queued) in
    can_link c.self.invariant.0 c.args.key c.args.u.0 c.at-call.result.now c.at-call.ensures q (rw (← c.self.view_is) at c.requires.serves_none) (rw (← c.self.view_is) at c.requires.waits_not) c.requires.thread

pub invariant_of-self : goal.invariant_of-self
invariant_of-self c =
    let r = c.at-call.result.now in
    let next = at_stage (stage.Given (tid c.args.u.0)) r in
    let es = c.self.inside.records.entries in
    let q = queued_there c.args.key c.self.inside.records.entries c.at-call.result.now c.at-call.ensures (rw (← c.self.view_is) at c.requires.queued) in
    rw (c.set_stage.ensures c.at-call.result.now c.at-call.ensures) (
      given c.self.invariant.0 c.link.new.self c.args.key c.args.u.0 c.at-call.result.now c.at-call.ensures q c.self.told.1 (rw (← c.self.view_is) at c.requires.serves_none) (rw (← c.self.view_is) at c.requires.waits_not) c.requires.thread c.link.ensures,
      collecting_kept c.self.invariant.1 c.args.key r next c.at-call.ensures refl (ap is_to_collect (sym q)) (look_changed es c.args.key next r c.at-call.ensures) (look_kept es c.args.key next),
    )

pub returns : goal.returns
returns c = rw (← c.self.view_is) (λ call e. rw (c.set_stage.ensures call e, c.link.ensures.top) refl)
