use Rattle.std.proofs.Common.{get_or, refl, arith, None}
use Rattle.std.proofs.lemmas.Option.{slice_get-get_or}
use Rattle.kernel_handle.proofs.Opens.{children-begin, limit-at, numbered-before, same_limits}
use Rattle.kernel_handle.proofs.opening.make_children.Goals as goal

pub loop-place-init : goal.loop-place-init
loop-place-init c = (refl, children-begin c.args.processes.now c.args.kernel.now c.requires.fresh)

pub returns-then-not-has_limit-clause-refused : goal.returns-then-not-has_limit-clause-refused
returns-then-not-has_limit-clause-refused c = λ threads. record {
  place = c.loop-place.place;
  process = get_or c.args.processes.now c.loop-place.place (record { limit = 0; parent = None });
  parent = c.in-Some.parent;
  there = slice_get-get_or c.args.processes.now c.loop-place.place _ c.loop-place-test.true;
  child = c.in-Some.is;
  wrong = λ h. let is = c.has_limit.ensures.1 h in let no = c.if-not-has_limit.true in cc;
}

pub make_child-requires-clause-order : goal.make_child-requires-clause-order
make_child-requires-clause-order c =
    let before = numbered-before c.args.processes.now c.loop-place.place c.in-Some.parent.0 _ (c.has_limit.ensures.0 c.if-not-has_limit.false) in
    let count = c.loop-place.invariant.1.count in
    (before.0, omega (arith, before.1), omega (arith, count, c.loop-place-test.true))

pub make_child-requires-clause-limits : goal.make_child-requires-clause-limits
make_child-requires-clause-limits c =
    let before = numbered-before c.args.processes.now c.loop-place.place c.in-Some.parent.0 _ (c.has_limit.ensures.0 c.if-not-has_limit.false) in
    same_limits c.args.processes.now c.loop-place.kernel _ _ _ c.loop-place.invariant.1 (limit-at c.args.processes.now c.loop-place.place _ c.loop-place-test.true) before.2
