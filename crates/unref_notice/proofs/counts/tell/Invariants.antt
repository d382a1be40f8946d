use Rattle.std.proofs.Common.{◌≡◌, ◌≤◌, ◌+◌, ◌++◌, drop, length, vec_capacity, vec_len}
use Rattle.unref_notice.specs.Counting.{counts_in, fallen_among}
use Rattle.unref_notice.proofs.counts.tell.Given as goal

abbrev pub invariant-loop-key : goal.invariant-loop-key
invariant-loop-key l =
    (l.into.items ++ fallen_among (counts_in l.tallies.entries) l.opening.entries (drop l.key-index l.touched) ≡ l.initial.into.items ++ fallen_among (counts_in l.tallies.entries) l.opening.entries l.touched)
    × (vec_len l.into + length (drop l.key-index l.touched) ≤ vec_capacity l.into)
    × (vec_capacity l.into ≡ vec_capacity l.initial.into)
