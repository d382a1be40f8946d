use Rattle.std.proofs.Common.{◌≡◌, ◌+◌, ◌-◌, ◌≤◌, drop, length}
use Rattle.dk_base.specs.declared.object.Obj.{Obj}
use Rattle.spec_records.specs.Words.{count_object}
use Rattle.unref_notice.specs.Words.{count_of}
use Rattle.unref_notice.proofs.counts.Counts.down_all.Given as goal

abbrev pub invariant-loop-object : goal.invariant-loop-object
invariant-loop-object l =
    (l.self.opening ≡ l.initial.self.opening)
    × (length (drop l.object-index l.objects) ≤ l.self.left)
    × (l.initial.self.left ≤ l.self.left + l.object-index)
    × ((o : Obj) → count_of l.initial.self.counts o - count_object o l.objects ≡ count_of l.self.counts o - count_object o (drop l.object-index l.objects))
