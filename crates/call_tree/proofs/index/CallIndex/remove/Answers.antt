use Rattle.std.proofs.Common.{arith}
use Rattle.call_tree.proofs.Changes.{look_gone, look_left}
use Rattle.call_tree.proofs.Collecting.{collecting_removed}
use Rattle.call_tree.proofs.Whole.{can_release, removed, set_sets, single}
use Rattle.call_tree.proofs.index.CallIndex.remove.Goals as goal

pub release-requires : goal.release-requires
release-requires c = rw c.server_number-u.ensures (can_release c.self.invariant.0 c.args.key c.at-call.result.now c.at-call.ensures c.self.told.1)

pub bounds-self-inside-caller : goal.bounds-self-inside-caller
bounds-self-inside-caller c = omega (arith, (c.self.invariant.0.indexed.sound c.args.key c.at-call.result.now c.at-call.ensures).caller.1)

pub invariant_of-self : goal.invariant_of-self
invariant_of-self c =
    rw c.remove.ensures.after (
      removed c.self.invariant.0 c.release.new.links c.release.new.servers c.args.key c.at-call.result.now c.at-call.ensures c.self.told.0 c.self.told.1
          (rw c.server_number-u.ensures at c.release.ensures),
      collecting_removed c.self.invariant.1 c.args.key c.at-call.result.now c.self.invariant.0.indexed.caller c.at-call.ensures (look_left c.self.inside.records.entries c.args.key)
          (set_sets c.self.inside.callers c.at-call.result.now.caller.0 0 (omega (arith, (c.self.invariant.0.indexed.sound c.args.key c.at-call.result.now c.at-call.ensures).caller.1, c.self.told.0))) (look_gone c.self.inside.records.entries c.args.key c.self.invariant.0.apart) c.put.ensures,
    )

pub returns-clause-single : goal.returns-clause-single
returns-clause-single c = rw (← c.self.view_is) (single c.self.invariant.0)

pub put-requires : goal.put-requires
put-requires c = (c.self.invariant.0.indexed.sound c.args.key c.at-call.result.now c.at-call.ensures).caller
