use Rattle.std.proofs.Common.{◌+◌, ap, arith}
use Rattle.spec_records.specs.Words.{is_to_collect}
use Rattle.call_tree.proofs.Changes.{look_new, look_old}
use Rattle.call_tree.proofs.Collecting.{collecting_opened}
use Rattle.call_tree.proofs.Whole.{caller_free, opened, set_sets}
use Rattle.call_tree.proofs.index.CallIndex.open.Goals as goal

pub invariant_of-self : goal.invariant_of-self
invariant_of-self c =
    let p = c.push-key in
    let q = c.requires in
    let es = c.self.inside.records.entries in
    rw (c.raise.ensures, p.ensures.entries) (
      opened c.self.invariant.0 p.result c.args.call c.self.told.0 p.ensures.fresh q.queued (rw (← c.self.view_is) at q.waits_not) q.sound (rw (← c.self.view_is) at q.next),
      collecting_opened c.self.invariant.1 p.result (p.result + 1) c.args.call (caller_free c.self.invariant.0 c.args.call.caller.0 (rw (← c.self.view_is) at q.waits_not)) (ap is_to_collect q.queued) (look_new es p.result c.args.call p.ensures.fresh)
          (look_old es p.result c.args.call) (omega arith) (set_sets c.self.inside.callers c.args.call.caller.0 (p.result + 1) (omega (arith, q.sound.caller.1, c.self.told.0))),
    )
