use Rattle.std.proofs.Common.{◌∙◌, ap, arith, reverse}
use Rattle.door_object.proofs.OwnerLists.{IsListed-last, next, valid_first, valid_next}
use Rattle.door_object.proofs.owner_lists.list_owned.Goals as goal

pub loop-number-init : goal.loop-number-init
loop-number-init c =
    let doors = c.args.doors.now in
    let p = c.args.p.0 in
    record {
      listed = IsListed-last doors p _ c.args.last (omega arith) c.requires.last;
      owned = ap reverse c.new-owned.ensures.items ∙ valid_first p c.args.last doors c.requires.last;
    }

pub bounds-earlier-place : goal.bounds-earlier-place
bounds-earlier-place c =
    let walk = c.loop-number.invariant.listed in
    (next c.args.doors.now c.args.earlier.now c.args.p.0 c.loop-number.number c.requires.linked walk c.loop-number-test.true).within

pub loop-number-smaller : goal.loop-number-smaller
loop-number-smaller c =
    let walk = c.loop-number.invariant.listed in
    let step = next c.args.doors.now c.args.earlier.now c.args.p.0 c.loop-number.number c.requires.linked walk c.loop-number-test.true in
    omega arith

pub loop-number-preserved : goal.loop-number-preserved
loop-number-preserved c =
    let walk = c.loop-number.invariant.listed in
    let step = next c.args.doors.now c.args.earlier.now c.args.p.0 c.loop-number.number c.requires.linked walk c.loop-number-test.true in
    record {
      listed = step.listed;
      owned =
          valid_next c.args.p.0 c.loop-number.number _ c.args.doors.now _ c.loop-number.owned.items _ c.loop-number.invariant.owned c.loop-number-test.true
          c.loop-number.invariant.listed.within step.is c.in_ok-push_valid.ensures;
    }
