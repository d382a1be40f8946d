use Rattle.std.proofs.Common.{◌≡◌, ◌≤◌, ◌*◌, ◌++◌, ◌∷◌, flat_map, length, take}
use Rattle.trace_text.specs.Taken.{TakesAtMost}
use Rattle.history_text.specs.Lookups.{thread_word}
use Rattle.history_text.proofs.write_end.push_threads.Given as goal

abbrev pub invariant-loop-thread : goal.invariant-loop-thread
invariant-loop-thread l =
    (l.text.items ≡ l.fn.text.items ++ flat_map (λ thread. 32 ∷ thread_word l.names thread) (take l.thread-index l.threads))
    × TakesAtMost l.fn.text l.text (17 * l.thread-index)
    × (17 * length l.threads ≤ l.fn.text.spare)
