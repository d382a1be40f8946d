use Rattle.std.proofs.Common.{◌≡◌, ◌++◌, flat_map, take}
use Rattle.history_text.specs.HeadText.{member_text}
use Rattle.history_text.proofs.write_head.push_members.Given as goal

abbrev pub invariant-loop-thread : goal.invariant-loop-thread
invariant-loop-thread l = l.text ≡ l.fn.text ++ flat_map (member_text l.process) (take l.thread-index l.threads)
