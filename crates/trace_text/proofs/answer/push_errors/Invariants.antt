use Rattle.std.proofs.Common.{◌≡◌, ◌≤◌, ◌*◌, ◌++◌, take, length}
use Rattle.std.specs.Prelude.{flat_map}
use Rattle.spec_requests.specs.Words.{spaced_error}
use Rattle.trace_text.specs.Taken.{TakesAtMost}
use Rattle.trace_text.proofs.answer.push_errors.Given as goal

abbrev pub invariant-loop-error : goal.invariant-loop-error
invariant-loop-error l =
    (l.text.items ≡ l.fn.text.items ++ flat_map spaced_error (take l.error-index l.errors))
    × TakesAtMost l.fn.text l.text (8 * l.error-index)
    × (8 * length l.errors ≤ l.fn.text.spare)
