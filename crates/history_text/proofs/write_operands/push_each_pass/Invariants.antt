use Rattle.std.proofs.Common.{◌≡◌, ◌≤◌, ◌*◌, ◌++◌, ◌∷◌, flat_map, length, take}
use Rattle.trace_text.specs.Taken.{TakesAtMost}
use Rattle.history_text.specs.LineWords.{pass_word}
use Rattle.history_text.proofs.write_operands.push_each_pass.Given as goal

abbrev pub invariant-loop-pass : goal.invariant-loop-pass
invariant-loop-pass l =
    (l.text.items ≡ l.fn.text.items ++ flat_map (λ pass. 32 ∷ pass_word pass) (take l.pass-index l.passes))
    × TakesAtMost l.fn.text l.text (22 * l.pass-index)
    × (22 * length l.passes ≤ l.fn.text.spare)
