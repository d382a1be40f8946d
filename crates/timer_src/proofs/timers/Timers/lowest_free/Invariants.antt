use Rattle.std.proofs.Common.{◌≡◌, ℕ, ◌<◌, true}
use Rattle.timer_src.specs.Table.{HaveDistinctIds}
use Rattle.timer_src.proofs.Free.{is_taken}
use Rattle.timer_src.proofs.timers.Timers.lowest_free.Given as goal

abbrev pub invariant-loop-id : goal.invariant-loop-id
invariant-loop-id l = ((k : ℕ) → k < l.id → is_taken l.process.0 l.self.list.timers k ≡ true) × (0 < l.id → HaveDistinctIds l.self.list.timers)
