use Rattle.std.proofs.Common.{◌≡◌, map, take}
use Rattle.history_text.specs.Changes.{new_thread}
use Rattle.history_text.proofs.calling.threads_of_members.Given as goal

abbrev pub invariant-loop-member : goal.invariant-loop-member
invariant-loop-member l = l.threads.items ≡ map (new_thread l.process) (take l.member-index l.members)
