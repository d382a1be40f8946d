use Rattle.std.proofs.Common.{◌≡◌, ◌++◌, take}
use Rattle.std.specs.Prelude.{flat_map}
use Rattle.spec_requests.specs.Words.{spaced_name}
use Rattle.trace_text.proofs.last_line.push_names.Given as goal

abbrev pub invariant-loop-thread : goal.invariant-loop-thread
invariant-loop-thread l = l.text.items ≡ l.initial.text.items ++ flat_map (spaced_name l.script) (take l.thread-index l.threads)
