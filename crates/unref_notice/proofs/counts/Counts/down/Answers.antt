use Rattle.std.proofs.Common.{◌∙◌, ap, arith, sym}
use Rattle.unref_notice.specs.declared.tally.Tally.{Tally}
use Rattle.unref_notice.specs.Counting.{count_at, counts_in}
use Rattle.unref_notice.proofs.Tallies.{count_kept, none_fewer, one_fewer, recounted, still_more}
use Rattle.unref_notice.proofs.counts.Counts.down.Goals as goal

pub invariant_of-self : goal.invariant_of-self
invariant_of-self c =
    let inside = c.self.inside in
    let more = c.recount.ensures.more in
    let left = ap (λ v. v.left) c.self.view_is in (
      still_more inside.tallies.entries c.recount.new.tallies.entries inside.opening.entries c.key_of-key.result _ inside.touched.items c.recount.new.touched.items c.recount.ensures.tallies c.recount.ensures.touched c.self.invariant.0,
      c.recount.ensures.marked,
      omega (arith, c.recount.ensures.spare, c.self.invariant.2),
      omega (arith, more, c.self.invariant.3, c.requires.left, left),
      omega (arith, more, c.self.invariant.4, c.recount.ensures.capacity, c.requires.left, left),
      omega (arith, more, c.self.invariant.5, c.requires.left, left),
      omega (arith, more, c.self.invariant.6, c.requires.left, left),
    )

pub returns-then-kept-gt0-clause-counts : goal.returns-then-kept-gt0-clause-counts
returns-then-kept-gt0-clause-counts c =
    λ o.
    let ts = c.self.inside.tallies.entries in
    let kept = ap (λ (t : Tally). t.now) c.tally_at-kept.ensures ∙ sym (count_kept ts c.key_of-key.result) ∙ ap (λ k. count_at (counts_in ts) k) c.key_of-key.ensures in
    rw (← c.self.view_is)
    (recounted ts c.recount.new.tallies.entries c.key_of-key.result _ c.recount.ensures.tallies c.args.object o c.key_of-key.ensures
    ∙ one_fewer (counts_in ts) c.args.object o _ kept)

pub returns-else-kept-gt0-clause-counts : goal.returns-else-kept-gt0-clause-counts
returns-else-kept-gt0-clause-counts c =
    λ o.
    let ts = c.self.inside.tallies.entries in
    let kept = ap (λ (t : Tally). t.now) c.tally_at-kept.ensures ∙ sym (count_kept ts c.key_of-key.result) ∙ ap (λ k. count_at (counts_in ts) k) c.key_of-key.ensures in
    rw (← c.self.view_is) (none_fewer (counts_in ts) c.args.object o _ kept (omega (arith, c.if-kept-gt0.false)))
