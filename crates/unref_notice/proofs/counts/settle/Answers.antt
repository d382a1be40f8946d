use Rattle.std.proofs.Common.{◌≡◌, ◌+◌, ◌∙◌, ap, arith, drop, length, refl, subst}
use Rattle.std.proofs.lemmas.List.{at_drop_more}
use Rattle.unref_notice.specs.declared.key.Key.TheVariants as key
use Rattle.unref_notice.specs.Counting.{AreMarked, IsStill, counts_in}
use Rattle.unref_notice.proofs.Keys.{settled}
use Rattle.unref_notice.proofs.Tallies.{count_again, count_kept, first_there, marked_fewer, written_there}
use Rattle.unref_notice.proofs.counts.settle.Goals as goal

pub unwrap-requires : goal.unwrap-requires
unwrap-requires c =
    let ks = c.args.touched.now in
    let i = c.loop-key.key-index in
    let marked = subst (AreMarked c.loop-key.tallies.entries) (at_drop_more (λ qs. qs) ks i (key.Door 0) c.loop-key-test.true) c.loop-key.invariant.3 in
    written_there c.insert.result _ (first_there c.loop-key.tallies.entries _ (drop (i + 1) ks) marked) c.insert.ensures.absent

pub loop-key-preserved : goal.loop-key-preserved
loop-key-preserved c =
    let ks = c.args.touched.now in
    let i = c.loop-key.key-index in
    let ts = c.loop-key.tallies.entries in
    let none = key.Door 0 in
    let fewer = at_drop_more length ks i none c.loop-key-test.true in
    let still = subst (IsStill (counts_in ts) c.loop-key.opening.entries) (at_drop_more (λ qs. qs) ks i none c.loop-key-test.true) c.loop-key.invariant.2 in
    let marked = subst (AreMarked ts) (at_drop_more (λ qs. qs) ks i none c.loop-key-test.true) c.loop-key.invariant.3 in
    let inserted = rw c.unwrap.ensures at c.insert.ensures.updates in
    let entries = rw c.unwrap.ensures at c.insert.ensures.entries in
    let there = first_there ts _ (drop (i + 1) ks) marked in
    let again : counts_in c.insert.new.self.entries ≡ counts_in ts =
    ap counts_in entries ∙ count_again ts _ _ there (c.now_at-now.ensures ∙ count_kept ts _) in (
      omega (arith, fewer, c.loop-key.invariant.0, c.write.ensures.spare),
      again ∙ c.loop-key.invariant.1,
      rw again (settled c.loop-key.opening.entries c.write.new.kept.entries _ _ c.write.ensures.lookup (counts_in ts) (drop (i + 1) ks) c.now_at-now.ensures still),
      marked_fewer ts c.insert.new.self.entries _ _ inserted.0 (drop (i + 1) ks) refl marked,
    )
