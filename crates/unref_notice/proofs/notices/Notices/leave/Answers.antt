use Rattle.std.proofs.Common.{◌≡◌, ◌++◌, List, ap, filter, map, subst, sym, ◌∙◌}
use Rattle.spec_records.specs.declared.record.Notice.{Notice}
use Rattle.spec_records.specs.Words.{is_kept_notice, kept_notices, left_notice, left_notices}
use Rattle.unref_notice.specs.DoorCounts.{CountsDoors}
use Rattle.unref_notice.specs.Left.{AreAllLeft, is_kept_among, left_among}
use Rattle.unref_notice.specs.Words.{NoticesValue}
use Rattle.unref_notice.proofs.Kept.{are_kept, kept_inside}
use Rattle.unref_notice.proofs.Leaving.{all_kept_left, all_left, kept_twice, left_twice}
use Rattle.unref_notice.proofs.notices.Notices.leave.Goals as goal

pub keep-requires-2-clause-order : goal.keep-requires-2-clause-order
keep-requires-2-clause-order g c =
    let s = c.self.inside in
    (s.made, c.keep.ensures.order s.made (c.leave_all-2.ensures.order s.made (c.leave_all.ensures.order s.made c.self.invariant.0)))

pub invariant_of-self : goal.invariant_of-self
invariant_of-self g c =
    let s = c.self.inside in (
      c.keep-2.ensures.order s.made (c.keep.ensures.order s.made (c.leave_all-2.ensures.order s.made (c.leave_all.ensures.order s.made c.self.invariant.0))),
      c.keep-2.ensures.counted
          (c.keep.ensures.counted
          (subst (CountsDoors s.of_doors.entries) (sym (c.leave_all-2.ensures.doors ∙ c.leave_all.ensures.doors)) c.self.invariant.1)),
    )

pub returns-clause-list : goal.returns-clause-list
returns-clause-list g c =
    let s = c.self.inside in
    let who = g.path.who in
    let doors = g.path.doors in
    let answers = c.requires.1.1.1.1.1.1 in
    let e = answers.0 in
    let l = answers.1.0 in
    let m = answers.1.1.0 in
    let all = answers.1.1.1.0 in
    let still = answers.1.1.1.1 in
    let ns = s.notices.items in
    let kept = is_kept_notice doors in
    let is = c.args.waiting.now in
    let js = c.args.held.now in
    let here = subst (λ (v : NoticesValue). AreAllLeft who (is ++ js) v.list.notices) (sym c.self.view_is) all in
    let before = are_kept kept ns (kept_inside doors c.args.self.now.list ns (ap (λ (v : NoticesValue). v.list.notices) c.self.view_is) still) in
    let changed : c.leave_all-2.new.notices.items ≡ map (left_notice who) ns =
    c.leave_all-2.ensures.notices who e l ∙ ap (map (left_among who js)) (c.leave_all.ensures.notices who e l) ∙ left_twice who is js ns ∙ all_left who (is ++ js) ns here in
    let left : c.keep-2.new.notices.items ≡ filter kept (map (left_notice who) ns) =
    c.keep-2.ensures.items doors m ∙ ap (filter (is_kept_among kept js)) (c.keep.ensures.items doors m) ∙ kept_twice kept is js c.leave_all-2.new.notices.items
    ∙ ap (filter (is_kept_among kept (is ++ js))) changed ∙ all_kept_left kept who (is ++ js) ns here before in
    ap (λ (ms : List Notice). record { made = s.made; notices = ms }) left ∙ ap (λ (v : NoticesValue). kept_notices doors (left_notices who v.list)) c.self.view_is
