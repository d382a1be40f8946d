use Rattle.std.proofs.Common.{◌≡◌, ◌-◌, length}
use Rattle.load_gen.specs.Tallies.{IsTallyOf}
use Rattle.load_gen.proofs.summary_line.count_all.Given as goal

abbrev pub invariant-loop-event : goal.invariant-loop-event
invariant-loop-event l = (l.playing.script ≡ l.initial.playing.script) × IsTallyOf l.tally l.playing.journal

abbrev pub decreases-loop-event : goal.decreases-loop-event
decreases-loop-event l = 100000 - length l.playing.journal
