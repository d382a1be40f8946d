use Rattle.std.proofs.Common.{◌≡◌, ◌∙◌, ◌-◌, ap, arith, set}
use Rattle.door_object.proofs.OwnerLists.{IsListed-last, ended_first, ended_from, ended_next, next}
use Rattle.door_object.proofs.owner_lists.end_listed.Goals as goal

pub loop-number-init : goal.loop-number-init
loop-number-init c =
    record {
      listed = IsListed-last c.args.doors.now c.args.p.0 _ c.args.last (omega arith) c.requires.last;
      ended = ended_first c.args.p.0 c.args.last c.args.doors.now c.requires.last;
    }

pub bounds-earlier-place : goal.bounds-earlier-place
bounds-earlier-place c =
    let walk = c.loop-number.invariant.listed in
    (next c.args.doors.now c.args.earlier.now c.args.p.0 c.loop-number.number c.requires.linked walk c.loop-number-test.true).within

pub loop-number-smaller : goal.loop-number-smaller
loop-number-smaller c =
    let walk = c.loop-number.invariant.listed in
    let step = next c.args.doors.now c.args.earlier.now c.args.p.0 c.loop-number.number c.requires.linked walk c.loop-number-test.true in
    omega arith

pub loop-number-preserved : goal.loop-number-preserved
loop-number-preserved c =
    let walk = c.loop-number.invariant.listed in
    let step = next c.args.doors.now c.args.earlier.now c.args.p.0 c.loop-number.number c.requires.linked walk c.loop-number-test.true in
    record {
      listed = step.listed;
      ended =
          ap (set c.loop-number.doors (c.loop-number.number - 1)) c.end_owner.ensures
          ∙ ended_next c.args.p.0 c.loop-number.number _ c.args.doors.now c.loop-number.doors _ c.loop-number.invariant.ended c.loop-number-test.true step.is;
    }

pub returns : goal.returns
returns c =
    let none : c.loop-number.number ≡ 0 = omega arith in
    c.loop-number.invariant.ended ∙ ap (λ n. ended_from c.args.p.0 n c.args.doors.now) none
