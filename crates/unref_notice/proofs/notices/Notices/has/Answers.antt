use Rattle.std.proofs.Common.{ap, nat_lt, ◌∙◌}
use Rattle.spec_records.specs.Words.{has_notice}
use Rattle.unref_notice.specs.Words.{NoticesValue}
use Rattle.unref_notice.proofs.DoorCounts.{has_counted}
use Rattle.unref_notice.proofs.notices.Notices.has.Goals as goal

pub returns : goal.returns
returns c =
    let s = c.self.inside in
    ap (nat_lt 0) c.count.ensures ∙ has_counted s.of_doors.entries s.notices.items c.args.d c.self.invariant.1
    ∙ ap (λ (v : NoticesValue). has_notice v.list c.args.d) c.self.view_is
