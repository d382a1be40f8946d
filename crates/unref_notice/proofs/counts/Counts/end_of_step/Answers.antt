use Rattle.std.proofs.Common.{◌≡◌, ◌==◌, ◌++◌, ap, arith, cond, length, ◌∙◌}
use Rattle.std.proofs.lemmas.List.Sorted.{sum_by-IsPermutation}
use Rattle.unref_notice.specs.Counting.{counts_in, fallen_among}
use Rattle.unref_notice.specs.Words.{how_many}
use Rattle.unref_notice.proofs.Fallen.{fallen_each, fallen_few}
use Rattle.unref_notice.proofs.counts.Counts.end_of_step.Goals as goal

pub returns-clause-each : goal.returns-clause-each
returns-clause-each c =
    λ d.
    let inside = c.self.inside in
    let told : c.tell.new.into.items ≡ fallen_among (counts_in inside.tallies.entries) inside.opening.entries inside.touched.items =
    c.tell.ensures.items ∙ ap (λ xs. xs ++ fallen_among (counts_in inside.tallies.entries) inside.opening.entries c.deref.result.now) c.clear.ensures.items
    ∙ ap (fallen_among (counts_in inside.tallies.entries) inside.opening.entries) c.deref.ensures.value in
    rw (← c.self.view_is)
    (sum_by-IsPermutation (λ x. cond (x == d) 1 0) c.tell.new.into.items c.sort_unstable.new.self.items c.sort_unstable.ensures.permutation
    ∙ ap (how_many d) told
    ∙ fallen_each (counts_in inside.tallies.entries) inside.opening.entries d inside.touched.items c.self.invariant.1.apart c.self.invariant.0)

pub returns-clause-few : goal.returns-clause-few
returns-clause-few c =
    let inside = c.self.inside in
    let told : c.tell.new.into.items ≡ fallen_among (counts_in inside.tallies.entries) inside.opening.entries inside.touched.items =
    c.tell.ensures.items ∙ ap (λ xs. xs ++ fallen_among (counts_in inside.tallies.entries) inside.opening.entries c.deref.result.now) c.clear.ensures.items
    ∙ ap (fallen_among (counts_in inside.tallies.entries) inside.opening.entries) c.deref.ensures.value in
    let few = fallen_few (counts_in inside.tallies.entries) inside.opening.entries inside.touched.items in
    let many = ap length told in
    let same = c.sort_unstable.ensures.len in
    omega (arith, few, many, same, c.self.invariant.6)
