use Rattle.std.proofs.Common.{arith, map, refl, subst, sym, ◌+◌}
use Rattle.spec_records.specs.Words.{IsAscending, notice_number}
use Rattle.spec_records.proofs.NumberedLists.{ascending-push}
use Rattle.unref_notice.specs.DoorCounts.{CountsDoors, door_in}
use Rattle.unref_notice.proofs.DoorCounts.{counts_made, few_counted}
use Rattle.unref_notice.proofs.notices.Notices.make.Goals as goal

pub add-requires-clause-few : goal.add-requires-clause-few
add-requires-clause-few c =
    let s = c.self.inside in
    let ok = s.notices.ok in
    let few = few_counted s.of_doors.entries s.notices.items c.args.d c.self.invariant.1 in omega (arith, ok, few)

pub invariant_of-self : goal.invariant_of-self
invariant_of-self c =
    let s = c.self.inside in (
      subst (IsAscending notice_number 0 (s.made + 1)) (sym c.push_back_reserved.ensures.items) (ascending-push notice_number s.notices.items 0 s.made _ (omega arith) refl c.self.invariant.0),
      subst (λ ns. CountsDoors c.add.new.self.entries (map door_in ns)) (sym c.push_back_reserved.ensures.items)
          (counts_made s.of_doors.entries c.add.new.self.entries s.notices.items _ c.self.invariant.1 c.add.ensures.counts),
    )
