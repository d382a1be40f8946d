use Rattle.std.proofs.Common.{◌≡◌, ◌≤◌, ◌++◌, drop, length}
use Rattle.unref_notice.specs.Counting.{counts_in, gone_among}
use Rattle.unref_notice.proofs.counts.tell_gone.Given as goal

abbrev pub invariant-loop-key : goal.invariant-loop-key
invariant-loop-key l =
    (l.into.items ++ gone_among (counts_in l.tallies.entries) l.opening.entries (drop l.key-index l.touched) ≡ l.initial.into.items ++ gone_among (counts_in l.tallies.entries) l.opening.entries l.touched)
    × (length (drop l.key-index l.touched) ≤ l.into.spare)
