use Rattle.std.proofs.Common.{◌≡◌, ◌≤◌, drop, length}
use Rattle.indexmap.specs.IndexMap.{spare}
use Rattle.unref_notice.specs.Counting.{AreMarked, IsStill, counts_in}
use Rattle.unref_notice.proofs.counts.settle.Given as goal

abbrev pub invariant-loop-key : goal.invariant-loop-key
invariant-loop-key l =
    (length (drop l.key-index l.touched) ≤ spare l.opening)
    × (counts_in l.tallies.entries ≡ counts_in l.initial.tallies.entries)
    × IsStill (counts_in l.tallies.entries) l.opening.entries (drop l.key-index l.touched)
    × AreMarked l.tallies.entries (drop l.key-index l.touched)
