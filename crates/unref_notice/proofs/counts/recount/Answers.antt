use Rattle.std.proofs.Common.{◌∙◌, refl, sym, true}
use Rattle.unref_notice.proofs.Tallies.{apart_end, marked_more, touched_end, touched_still}
use Rattle.unref_notice.proofs.counts.recount.Goals.{else-not-was_touched, then-not-was_touched}
use Rattle.unref_notice.proofs.counts.recount.Goals as goal

pub returns-clause-marked : goal.returns-clause-marked
returns-clause-marked c =
    let xs = c.args.touched.now.items in
    elim c.if-not-was_touched.branch [
      | then-not-was_touched w ↦ rw (w.touched-is, w.push_reserved.ensures.items) (marked_more c.args.tallies.now.entries c.write.new.kept.entries c.args.key (record { now = c.args.now; touched = true }) c.write.ensures.lookup xs _ refl (touched_end xs c.args.key) (apart_end xs c.args.key c.requires.marked.apart (sym c.requires.was ∙ w.if-not-was_touched.true)) c.requires.marked)
      | else-not-was_touched w ↦ rw w.touched-is (marked_more c.args.tallies.now.entries c.write.new.kept.entries c.args.key (record { now = c.args.now; touched = true }) c.write.ensures.lookup xs xs refl (λ q. touched_still xs c.args.key q (sym c.requires.was ∙ w.if-not-was_touched.false)) c.requires.marked.apart c.requires.marked)
    ]
