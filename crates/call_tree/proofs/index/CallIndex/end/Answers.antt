use Rattle.std.proofs.Common.{refl}
use Rattle.call_tree.specs.Index.{moved_to}
use Rattle.call_tree.proofs.Changes.{look_changed, look_kept}
use Rattle.call_tree.proofs.Collecting.{collecting_ended}
use Rattle.call_tree.proofs.Whole.{can_release, ended}
use Rattle.call_tree.proofs.index.CallIndex.end.Goals as goal

pub release-requires : goal.release-requires
release-requires c = rw c.server_number-u.ensures (can_release c.self.invariant.0 c.args.key c.at-call.result.now c.at-call.ensures c.self.told.1)

pub invariant_of-self : goal.invariant_of-self
invariant_of-self c =
    let r = c.at-call.result.now in
    let next = moved_to c.args.stage c.args.abandoned r in
    let es = c.self.inside.records.entries in
    rw (c.replace.ensures.after, c.moved-next.ensures) (
      ended c.self.invariant.0 c.release.new.links c.release.new.servers c.args.key c.at-call.result.now c.args.stage c.args.abandoned c.at-call.ensures c.requires.ended c.self.told.1
          (rw c.server_number-u.ensures at c.release.ensures),
      collecting_ended c.self.invariant.1 c.args.key r c.self.invariant.0.indexed.caller c.at-call.ensures (look_kept es c.args.key next)
          next refl c.requires.ended (look_changed es c.args.key next r c.at-call.ensures) c.put.ensures,
    )

pub put-requires : goal.put-requires
put-requires c = (c.self.invariant.0.indexed.sound c.args.key c.at-call.result.now c.at-call.ensures).caller
