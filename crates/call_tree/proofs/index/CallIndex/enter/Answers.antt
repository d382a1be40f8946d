use Rattle.std.proofs.Common.{refl}
use Rattle.spec_records.specs.declared.record.CallStage.TheVariants as stage
use Rattle.spec_records.specs.Words.{tid, without_arguments_at}
use Rattle.call_tree.proofs.Changes.{look_changed, look_kept}
use Rattle.call_tree.proofs.Collecting.{collecting_kept, given_waits}
use Rattle.call_tree.proofs.Whole.{entered, given_stage, given_there}
use Rattle.call_tree.proofs.index.CallIndex.enter.Goals as goal

pub invariant_of-self : goal.invariant_of-self
invariant_of-self c =
    let g = given_there c.args.key c.self.inside.records.entries c.at-call.result.now c.at-call.ensures (rw (← c.self.view_is) at c.requires) in
    let r = c.at-call.result.now in
    let es = c.self.inside.records.entries in
    let t = given_stage c.at-call.result.now.stage g in
    let next = without_arguments_at (stage.Entered (tid t.0)) r in
    rw (c.replace.ensures.after, c.moved-next.ensures, c.entered.ensures t.0 t.1) (
      entered c.self.invariant.0 c.args.key t.0 r c.at-call.ensures t.1,
      collecting_kept c.self.invariant.1 c.args.key r next c.at-call.ensures refl (given_waits t.0 r.stage t.1) (look_changed es c.args.key next r c.at-call.ensures) (look_kept es c.args.key next),
    )
