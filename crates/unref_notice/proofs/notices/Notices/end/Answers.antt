use Rattle.std.proofs.Common.{ℕ, ◌<◌, ◌-◌, ◌==◌, if◌then◌else◌, length, map, ◌≡◌, List, ap, arith, filter, not, refl, remove, rules, subst, sym, ◌∙◌}
use Rattle.dk_base.specs.ByNumber.{at_number}
use Rattle.spec_records.specs.declared.record.Notice.{Notice}
use Rattle.spec_records.specs.declared.record.NoticeStage.TheVariants as stage
use Rattle.spec_records.specs.Words.{IsAscending, has_many, is_kept_notice, is_notice_entered_by, notice_at, notice_number}
use Rattle.unref_notice.specs.DoorCounts.{CountsDoors, door_in, notices_of}
use Rattle.unref_notice.proofs.DoorCounts.{counts_removed}
use Rattle.unref_notice.specs.Left.{IsAllEntered, takes_many_in}
use Rattle.unref_notice.specs.Words.{NoticesValue}
use Rattle.unref_notice.proofs.Kept.{kept_inside, removed_there, stays_there}
use Rattle.unref_notice.proofs.Places.{ascending-remove, ascending-set}
use Rattle.spec_records.proofs.Places.{changed_nowhere}
use Rattle.unref_notice.proofs.notices.Notices.end.Goals as goal

pub returns-in_default-clause-list : goal.returns-in_default-clause-list
returns-in_default-clause-list g c =
    let doors = g.doors in
    let kept = is_kept_notice doors in
    let ns = c.self.inside.notices.items in
    let before = kept_inside doors c.args.self.now.list ns (ap (λ (v : NoticesValue). v.list.notices) c.self.view_is) c.requires.1.1.1.1 in
    let here = subst (λ (v : NoticesValue). IsAllEntered c.args.serves c.args.t.0 v.list.notices) (sym c.self.view_is) c.requires.1.1.1.0 in
    rw (← c.self.view_is)
    (ap (λ (ms : List Notice). record { made = c.self.inside.made; notices = ms })
    (sym (ap (filter kept) (changed_nowhere (is_notice_entered_by c.args.t.0) (notice_at stage.Over) ns (sym (c.place_entered.ensures.place here) ∙ c.in_default.is)) ∙ before)))

pub invariant_of-self : goal.invariant_of-self
invariant_of-self g c =
    let s = c.self.inside in
    let ok = s.notices.ok in
    let bound = c.in-Some.ensures.bound in
    let within : c.in-Some.place < length s.notices.items = omega (arith, ok, bound) in
    let left : c.remove.new.self.items ≡ remove s.notices.items c.in-Some.place = search rules in
    let taken = c.take.new.self.entries in (
      subst (IsAscending notice_number 0 s.made) (sym left) (ascending-remove notice_number s.notices.items 0 s.made c.in-Some.place c.self.invariant.0 within),
      subst (λ ns. CountsDoors taken (map door_in ns)) (sym left)
          (counts_removed s.of_doors.entries taken s.notices.items c.in-Some.place c.index.result.now within c.self.invariant.1
          (subst (λ (x : Notice). (e : ℕ) → notices_of taken e ≡ notices_of s.of_doors.entries e - (if x.door == e then 1 else 0)) c.index.ensures c.take.ensures.counts)),
    )

pub invariant_of-self-else-holds : goal.invariant_of-self-else-holds
invariant_of-self-else-holds g c =
    let s = c.self.inside in
    let ok = s.notices.ok in
    let bound = c.in-Some.ensures.bound in
    let d = c.index.result.now in (
      subst (IsAscending notice_number 0 s.made) (sym (c.end_at.ensures.changed d)) (ascending-set notice_number s.notices.items 0 s.made c.in-Some.place _ d c.self.invariant.0 (omega (arith, ok, bound)) refl),
      subst (CountsDoors s.of_doors.entries) (sym c.end_at.ensures.doors) c.self.invariant.1,
    )

pub returns-then-holds-clause-list : goal.returns-then-holds-clause-list
returns-then-holds-clause-list g c =
    let doors = g.doors in
    let kept = is_kept_notice doors in
    let ns = c.self.inside.notices.items in
    let before = kept_inside doors c.args.self.now.list ns (ap (λ (v : NoticesValue). v.list.notices) c.self.view_is) c.requires.1.1.1.1 in
    let here = subst (λ (v : NoticesValue). IsAllEntered c.args.serves c.args.t.0 v.list.notices) (sym c.self.view_is) c.requires.1.1.1.0 in
    let left : c.remove.new.self.items ≡ remove ns c.in-Some.place = search rules in
    let many = ap (λ (n : Notice). not (has_many (at_number doors n.door))) (sym c.index.ensures) ∙ ap not (sym (c.holds.ensures (takes_many_in doors) c.requires.1.1.0) ∙ c.if-holds.true) in
    rw (← c.self.view_is)
    (ap (λ (ms : List Notice). record { made = c.self.inside.made; notices = ms })
    (left
    ∙ removed_there kept (is_notice_entered_by c.args.t.0) (notice_at stage.Over) ns c.in-Some.place c.index.result.now before (sym (c.place_entered.ensures.place here) ∙ c.in-Some.is) many))

pub returns-clause-list : goal.returns-clause-list
returns-clause-list g c =
    let doors = g.doors in
    let kept = is_kept_notice doors in
    let ns = c.self.inside.notices.items in
    let before = kept_inside doors c.args.self.now.list ns (ap (λ (v : NoticesValue). v.list.notices) c.self.view_is) c.requires.1.1.1.1 in
    let here = subst (λ (v : NoticesValue). IsAllEntered c.args.serves c.args.t.0 v.list.notices) (sym c.self.view_is) c.requires.1.1.1.0 in
    let one = ap (λ (n : Notice). not (has_many (at_number doors n.door))) (sym c.index.ensures) ∙ ap not (sym (c.holds.ensures (takes_many_in doors) c.requires.1.1.0) ∙ c.if-holds.false) in
    rw (← c.self.view_is)
    (ap (λ (ms : List Notice). record { made = c.self.inside.made; notices = ms })
    (c.end_at.ensures.changed c.index.result.now
    ∙ stays_there kept (is_notice_entered_by c.args.t.0) (notice_at stage.Over) ns c.in-Some.place c.index.result.now before (sym (c.place_entered.ensures.place here) ∙ c.in-Some.is) one))
