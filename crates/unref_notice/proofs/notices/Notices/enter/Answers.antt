use Rattle.std.proofs.Common.{refl, subst, sym}
use Rattle.spec_records.specs.declared.record.NoticeStage.TheVariants as stage
use Rattle.spec_records.specs.Words.{IsAscending, is_given_notice_as, notice_at, notice_number, tid}
use Rattle.spec_records.proofs.NumberedLists.{ascending-change_first}
use Rattle.unref_notice.specs.DoorCounts.{CountsDoors}
use Rattle.unref_notice.proofs.notices.Notices.enter.Goals as goal

pub invariant_of-self : goal.invariant_of-self
invariant_of-self c =
    let s = c.self.inside in (
      subst (IsAscending notice_number 0 s.made) (sym c.enter_given.ensures.changed)
          (ascending-change_first notice_number (notice_at (stage.Entered (tid c.args.t.0))) (λ x. refl) (is_given_notice_as c.args.n c.args.t.0) s.notices.items 0 s.made c.self.invariant.0),
      subst (CountsDoors s.of_doors.entries) (sym c.enter_given.ensures.doors) c.self.invariant.1,
    )
