use Rattle.std.proofs.Common.{◌≡◌, ◌-◌, length}
use Rattle.spec_requests.specs.Words.{lines_text}
use Rattle.doors_top.proofs.play.take_turns.Given as goal

abbrev pub invariant-loop-text : goal.invariant-loop-text
invariant-loop-text l =
    (l.playing.script ≡ l.initial.playing.script)
    × (l.text ≡ lines_text l.playing.script l.playing.journal)

abbrev pub decreases-loop-text : goal.decreases-loop-text
decreases-loop-text l = 100000 - length l.playing.journal
