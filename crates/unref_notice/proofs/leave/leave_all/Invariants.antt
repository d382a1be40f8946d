use Rattle.std.proofs.Common.{◌≡◌, ℕ, map, take}
use Rattle.std.specs.VecDeque.{deque_capacity, deque_len}
use Rattle.spec_records.specs.Words.{AnswersAs, IsAscending, Leaving, notice_number}
use Rattle.unref_notice.specs.DoorCounts.{door_in}
use Rattle.unref_notice.specs.Left.{left_among}
use Rattle.unref_notice.proofs.leave.leave_all.Given as goal

abbrev pub invariant-loop-item : goal.invariant-loop-item
invariant-loop-item g l = record {
  notices : (who : Leaving) → AnswersAs (goal.E-post g l.ends) who.ends → AnswersAs (goal.L-post g l.loses) who.loses → l.notices.items ≡ map (left_among who (take l.item-index l.items)) l.initial.notices.items;
  order : (made : ℕ) → IsAscending notice_number 0 made l.initial.notices.items → IsAscending notice_number 0 made l.notices.items;
  doors : map door_in l.notices.items ≡ map door_in l.initial.notices.items;
  len : deque_len l.notices ≡ deque_len l.initial.notices;
  capacity : deque_capacity l.notices ≡ deque_capacity l.initial.notices;
}
