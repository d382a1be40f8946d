use Rattle.std.proofs.Common.{◌∙◌, ap, arith, sym}
use Rattle.unref_notice.specs.declared.tally.Tally.{Tally}
use Rattle.unref_notice.specs.Counting.{count_at, counts_in}
use Rattle.unref_notice.proofs.Tallies.{count_kept, one_more, recounted, still_more}
use Rattle.unref_notice.proofs.counts.Counts.up.Goals as goal

pub overflow_add-kept : goal.overflow_add-kept
overflow_add-kept c =
    let kept = ap (λ (t : Tally). t.now) c.tally_at-kept.ensures ∙ sym (count_kept c.self.inside.tallies.entries c.key_of-key.result) in
    let few = rw (← c.self.view_is, ← c.key_of-key.ensures) at c.requires.few in
    omega (arith, kept, few)

pub invariant_of-self : goal.invariant_of-self
invariant_of-self c =
    let inside = c.self.inside in
    let more = c.recount.ensures.more in
    let left = ap (λ v. v.left) c.self.view_is in (
      still_more inside.tallies.entries c.recount.new.tallies.entries inside.opening.entries c.key_of-key.result _ inside.touched.items c.recount.new.touched.items c.recount.ensures.tallies c.recount.ensures.touched c.self.invariant.0,
      c.recount.ensures.marked,
      omega (arith, c.recount.ensures.spare, c.self.invariant.2),
      omega (arith, more, c.self.invariant.3, c.requires.left, left),
      omega (arith, more, c.self.invariant.4, c.recount.ensures.capacity, c.requires.left, left),
      omega (arith, more, c.self.invariant.5, c.requires.left, left),
      omega (arith, more, c.self.invariant.6, c.requires.left, left),
    )

pub returns-clause-counts : goal.returns-clause-counts
returns-clause-counts c =
    λ o.
    let ts = c.self.inside.tallies.entries in
    let kept = ap (λ (t : Tally). t.now) c.tally_at-kept.ensures ∙ sym (count_kept ts c.key_of-key.result) ∙ ap (λ k. count_at (counts_in ts) k) c.key_of-key.ensures in
    rw (← c.self.view_is)
    (recounted ts c.recount.new.tallies.entries c.key_of-key.result _ c.recount.ensures.tallies c.args.object o c.key_of-key.ensures
    ∙ one_more (counts_in ts) c.args.object o _ kept)
